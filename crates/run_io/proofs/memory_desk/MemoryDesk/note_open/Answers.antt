use Rattle.std.proofs.Common.{◌≡◌, ◌<◌, ◌∙◌, ap, sym, length, IfSome, Option, ℕ, List, refl, subst}
use Rattle.std.proofs.lemmas.Option.{slice_get_read}
use Rattle.std.specs.Option.{option_and_then}
use Rattle.run_io.specs.contracts.memory_desk.MemoryDesk.{the_view}
use Rattle.run_io.specs.Desk.{FileGiven, with_open}
use Rattle.run_io.specs.MemoryDesk.{noted_files, name_at}
use Rattle.run_io.proofs.Noting.{noted_more}
use Rattle.run_io.proofs.memory_desk.MemoryDesk.note_open.Goals as goal

pub returns-in-Some : goal.returns-in-Some
returns-in-Some c =
    let files = c.self.inside.files.items in
    let notes = c.self.inside.earlier.items in
    let given = c.self.inside.given in
    let inside : c.in-Some.open < length files = subst (λ (o : Option ℕ). IfSome o (λ p. p < length files)) c.in-Some.is c.self.invariant in
    let here = slice_get_read files (length files) c.in-Some.open c.index.result.now refl inside c.index.ensures in
    let more = noted_more files notes c.in-Some.open given c.index.result.now here in
    let noted : noted_files c.and-self-inside.result.items ≡ with_open (noted_files notes) (option_and_then (name_at files) c.self.inside.place) given =
    ap noted_files c.and-self-inside.ensures ∙ (more ∙ ap (λ (place : Option ℕ). with_open (noted_files notes) (option_and_then (name_at files) place) given) (sym c.in-Some.is)) in
    rw (← c.self.view_is) (ap (λ (earlier : List FileGiven). record (the_view c.self.inside) { earlier = earlier }) noted)
