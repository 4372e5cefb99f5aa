use Rattle.std.proofs.Common.{◌≡◌, ◌≢◌, ◌<◌, ◌+◌, ℕ, length, set, true, All, Some, sym, ap, ◌∙◌, subst, arith}
use Rattle.std.proofs.lemmas.Option.{same_Some}
use Rattle.board_core.specs.declared.entry.Entry.{Entry}
use Rattle.goal_board.specs.declared.view.Terms.{Terms}
use Rattle.goal_board.specs.declared.pass.Posted.{Posted}
use Rattle.goal_facts.specs.Found.{Found}
use Rattle.goal_board.specs.Rule.{Sat, marked, numbered, entry_of}
use Rattle.goal_board.specs.Passes.{BoardState, PassState}
use Rattle.goal_board.specs.Inside.{IsPass, IsEvidenced}
use Rattle.goal_board.proofs.Truth.{evidence_kind}
use Rattle.goal_board.proofs.Posts.{may_number, has_room, pass_posted}
use Rattle.goal_board.proofs.board.Board.post.Goals as goal

pub number-number-requires-clause-may : goal.number-number-requires-clause-may
number-number-requires-clause-may c =
    let p = c.pass.inside in
    let same = c.goal-goal.ensures in
    let range : c.goal-goal.result < length p.posted.items = omega (arith, c.requires.new.range, same, ap (λ (s : PassState). s.goals) c.pass.view_is) in
    let new = subst (λ (s : PassState). All (λ (e : Entry). e.goal ≢ c.args.evidence.goal) s.known.entries) (sym c.pass.view_is) c.requires.new.new in
    let found = subst (λ (b : BoardState). Found b.terms.signals.value.circuit b.terms.signals.value.lits b.terms.options c.args.source c.args.evidence.goal) (sym c.self.view_is) c.requires.found in
    let goals = ap (λ (s : PassState). s.goals) c.pass.view_is ∙ c.requires.pass.goals ∙ sym (ap (λ (b : BoardState). b.terms.goals) c.self.view_is) in
    may_number c.self.inside.table.shared.key p.posts p.posted.items p.caller p.front p.seat.me c.goal-goal.result c.args.source c.pass.invariant goals range
    (subst (λ (g : ℕ). All (λ (e : Entry). e.goal ≢ g) p.seat.me.0.known.entries) (sym same) new)
    (subst (λ (g : ℕ). Found c.self.inside.table.shared.key.signals.value.circuit c.self.inside.table.shared.key.signals.value.lits c.self.inside.table.shared.key.options c.args.source g) (sym same) found)

pub push_reserved-requires : goal.push_reserved-requires
push_reserved-requires c =
    let p = c.pass.inside in
    let range : c.args.evidence.goal < length p.posted.items = omega (arith, c.requires.new.range, ap (λ (s : PassState). s.goals) c.pass.view_is) in
    let new = subst (λ (s : PassState). All (λ (e : Entry). e.goal ≢ c.args.evidence.goal) s.known.entries) (sym c.pass.view_is) c.requires.new.new in
    omega (arith, (has_room p.posts p.posted.items p.caller p.front p.seat.me c.args.evidence.goal c.pass.invariant range new).0)

pub invariant_of-pass : goal.invariant_of-pass
invariant_of-pass c =
    let p = c.pass.inside in
    let g : ℕ = c.goal-goal.result in
    let n : ℕ = c.number-number.result in
    let same = c.goal-goal.ensures in
    let range : g < length p.posted.items = omega (arith, c.requires.new.range, same, ap (λ (s : PassState). s.goals) c.pass.view_is) in
    let new = subst (λ (s : PassState). All (λ (e : Entry). e.goal ≢ c.args.evidence.goal) s.known.entries) (sym c.pass.view_is) c.requires.new.new in
    let entry : Entry = record { number = n; caller = p.caller; goal = g; kind = c.kind.result; source = c.args.source; low = p.front } in
    let post : Posted = record { entry = entry; evidence = c.args.evidence } in
    let is : entry ≡ entry_of p.seat.me.0 n g c.args.source = λ i. record { number = n; caller = sym c.pass.invariant.caller i; goal = g; kind = c.kind.ensures i; source = c.args.source; low = sym c.pass.invariant.front_is i } in
    let board : Terms = c.args.self.now.terms in
    let told = ap (λ (s : PassState). s.terms) c.pass.view_is ∙ c.requires.pass.terms in
    let kind = evidence_kind c.args.self.now.terms.signals.value c.args.self.now.terms.options c.args.source c.args.evidence c.is_checked.ensures c.requires.evidence c.requires.found in
    let ev : (t : Terms) → p.seat.me.0.terms ≡ Some t → IsEvidenced t post = λ t has. subst (λ (x : Terms). IsEvidenced x post) (same_Some board t (sym told ∙ has))
    (record { checked = c.is_checked.ensures; signals_are = c.requires.evidence; goal = sym same; kind = kind ∙ sym c.kind.ensures; shown = c.requires.shown }) in
    let view : c.mark.new.seat.me ≡ (marked (numbered p.seat.me.0 (entry_of p.seat.me.0 n g c.args.source)) g, p.seat.me.1) = c.mark.ensures.view ∙ ap (λ (m : Sat). (marked m.0 g, m.1)) c.number-number.ensures.view in
    subst (λ (m : Sat). IsPass c.push_reserved.new.self (set p.posted.items g true) p.caller (n + 1) m) (sym view)
    (pass_posted p.posts c.push_reserved.new.self p.posted.items p.caller p.front p.seat.me g c.args.source n post c.pass.invariant range
    (subst (λ (x : ℕ). All (λ (e : Entry). e.goal ≢ x) p.seat.me.0.known.entries) (sym same) new)
    c.push_reserved.ensures.items (omega (arith, c.push_reserved.ensures.capacity)) is ev)
