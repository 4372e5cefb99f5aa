use Rattle.std.proofs.Common.{◌≡◌, ◌∙◌, sym, ap, refl, inl, inr, Some, None}
use Rattle.std.specs.List.{position}
use Rattle.run_io.specs.Desk.{with_open}
use Rattle.run_io.specs.contracts.memory_desk.MemoryDesk.{the_view}
use Rattle.run_io.specs.MemoryDesk.{DeskInMemory, has_name, text_of, text_at, name_at}
use Rattle.std.specs.Prelude.{drop, option_map}
use Rattle.run_io.proofs.Noting.{same_desk}
use Rattle.run_io.proofs.Finding.{first_file, no_file, some_file, all_left}
use Rattle.run_io.proofs.memory_desk.MemoryDeskDesk.start_file.Goals as goal

pub returns-in_default-clause-fails : goal.returns-in_default-clause-fails
returns-in_default-clause-fails c =
    let nowhere : None ≡ position (has_name c.args.name.now) c.self.inside.files.items = c.in_default.ensures ∙ ap (position (has_name c.args.name.now)) c.deref.ensures.value in
    rw (← c.self.view_is) (λ _. inr (no_file c.self.inside.files.items c.args.name.now nowhere), λ _. refl)

pub returns-clause-fails : goal.returns-clause-fails
returns-clause-fails c =
    let here : Some c.in-Some.place ≡ position (has_name c.args.name.now) c.self.inside.files.items = c.in-Some.ensures ∙ ap (position (has_name c.args.name.now)) c.deref.ensures.value in
    rw (← c.self.view_is) (
      λ no. absurd (cc),
      λ fails. elim fails [
        | inl listed ↦ c.if-next_fails.ensures.fails.1 listed
        | inr none ↦ absurd (some_file c.self.inside.files.items c.args.name.now c.in-Some.place here none)
      ],
    )

pub returns-clause-ok : goal.returns-clause-ok
returns-clause-ok c =
    let files = c.self.inside.files.items in
    let here : Some c.in-Some.place ≡ position (has_name c.args.name.now) files = c.in-Some.ensures ∙ ap (position (has_name c.args.name.now)) c.deref.ensures.value in
    let first = first_file files c.args.name.now c.in-Some.place (sym here) in
    let whole = all_left (text_at files c.in-Some.place) (text_of files c.args.name.now) first.1 in
    let kept = c.self-2.view_is ∙ c.note_open.ensures in
    rw (← c.self.view_is) (
    ap (λ (d : DeskInMemory). record d { started = name_at d.files c.in-Some.place; whole = text_at d.files c.in-Some.place; left = option_map (drop 0) (text_at d.files c.in-Some.place); given = 0 }) kept
    ∙ same_desk (record (the_view c.self.inside) { earlier = with_open (the_view c.self.inside).earlier (the_view c.self.inside).started (the_view c.self.inside).given })
    _ _ _ _ _ _ _ _ c.next_fails.ensures.made first.0 first.1 whole)
