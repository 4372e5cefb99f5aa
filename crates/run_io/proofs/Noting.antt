-- Files that are noted as they are started.
use Rattle.std.proofs.Common.{◌≡◌, ℕ, List, [], ◌∷◌, ◌++◌, Some, sym, ap, ◌∙◌}
use Rattle.std.specs.Prelude.{slice_get, option_map}
use Rattle.std.proofs.lemmas.List.{map-append}
use Rattle.std.specs.Global.{Vec}
use Rattle.std.specs.declared.option.Option.{Option}
use Rattle.run_io.specs.Desk.{with_open}
use Rattle.run_io.specs.MemoryDesk.{DeskInMemory, noted_files, name_at}
use Rattle.run_io.specs.Numbered.{Numbered}
use Rattle.run_io.specs.declared.file_text.FileText.{FileText}

-- the file at a place is noted with its name
pub noted_more : (files : List FileText) (notes : List (Vec ℕ × ℕ)) (place given : ℕ) (file : FileText) → slice_get files place ≡ Some file
    → noted_files (notes ++ (file.name, given) ∷ []) ≡ with_open (noted_files notes) (name_at files place) given
noted_more files notes place given file here =
    map-append (λ (note : Vec ℕ × ℕ). (note.0.items, note.1)) notes ((file.name, given) ∷ [])
    ∙ sym (ap (λ (name : Option (List ℕ)). with_open (noted_files notes) name given) (ap (option_map (λ (f : FileText). f.name.items)) here))

-- a desk with other calls, and at the start of another file
pub same_desk : (d : DeskInMemory) (c k : Numbered) (s t w v l m : Option (List ℕ)) → c ≡ k → s ≡ t → w ≡ v → l ≡ m
    → record d { calls = c; started = s; whole = w; left = l; given = 0 } ≡ record d { calls = k; started = t; whole = v; left = m; given = 0 }
same_desk d c k s t w v l m calls started whole left =
    ap (λ (x : Numbered). record d { calls = x; started = s; whole = w; left = l; given = 0 }) calls
    ∙ (ap (λ (x : Option (List ℕ)). record d { calls = k; started = x; whole = w; left = l; given = 0 }) started
    ∙ (ap (λ (x : Option (List ℕ)). record d { calls = k; started = t; whole = x; left = l; given = 0 }) whole
    ∙ ap (λ (x : Option (List ℕ)). record d { calls = k; started = t; whole = v; left = x; given = 0 }) left))
