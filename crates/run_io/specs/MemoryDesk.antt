-- The files of a desk in memory.
use Rattle.std.specs.Prelude.{ℕ, Bool, List, find, bytes_eq, slice_get, option_map, map}
use Rattle.std.specs.declared.option.Option.{Option}
use Rattle.std.specs.Global.{Vec}
use Rattle.run_io.specs.Desk.{FileGiven}
use Rattle.run_io.specs.Numbered.{Numbered}
use Rattle.run_io.specs.declared.file_text.FileText.{FileText}

-- whether a file has this name
abbrev pub has_name : List ℕ → FileText → Bool
has_name name file = bytes_eq file.name.items name

-- the text of the first file of a name
abbrev pub text_of : List FileText → List ℕ → Option (List ℕ)
text_of files name = option_map (λ (file : FileText). file.bytes.items) (find (has_name name) files)

-- the name of the file at a place
abbrev pub name_at : List FileText → ℕ → Option (List ℕ)
name_at files place = option_map (λ (file : FileText). file.name.items) (slice_get files place)

-- the text of the file at a place
abbrev pub text_at : List FileText → ℕ → Option (List ℕ)
text_at files place = option_map (λ (file : FileText). file.bytes.items) (slice_get files place)

-- files of which names and counts were noted
abbrev pub noted_files : List (Vec ℕ × ℕ) → List FileGiven
noted_files notes = map (λ (note : Vec ℕ × ℕ). (note.0.items, note.1)) notes

-- what a desk in memory shows
pub record DeskInMemory : Type 0 where
  pub files : List FileText
  pub calls : Numbered
  pub faults : ℕ
  pub earlier : List FileGiven
  pub started : Option (List ℕ)
  pub whole : Option (List ℕ)
  pub left : Option (List ℕ)
  pub given : ℕ
