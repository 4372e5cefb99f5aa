use Rattle.std.proofs.Common.{◌≡◌, ◌-◌, ◌<◌, ℕ, inl, inr, length, List, get_or, sym, subst, arith}
use Rattle.std.proofs.lemmas.Bool.{cases_lt}
use Rattle.std.proofs.lemmas.List.{get_or_read, get_or_past}
use Rattle.gate_order.specs.UserLists.{IsLastUser}
use Rattle.gate_order.proofs.order.users.Users.earlier.Goals as goal

pub returns : goal.returns
returns c =
    let uses = c.self.inside.uses.value.items in
    let user = c.args.user in
    let IsUsed : List ℕ → Type 0 = λ l. 0 < get_or l user 0 in
    let used : 0 < get_or uses user 0 = subst IsUsed (sym c.self.view_is) c.requires in
    let inside : user < length uses =
    elim (cases_lt user (length uses)) [ inl h ↦ h | inr h ↦ absurd (omega (arith, get_or_past uses user 0 h, used)) ]
    in
    let read : c.index.result.now ≡ get_or c.self.inside.earlier.items user 0 = get_or_read c.self.inside.earlier.items user c.index.result.now (omega (arith, c.self.invariant.earlier_size)) c.index.ensures 0 in
    let place = get_or uses user 0 - 1 in
    let P : List ℕ → ℕ → Type 0 = λ l last. IsLastUser l user (get_or l user 0 - 1) last in
    let is : P uses (get_or c.self.inside.earlier.items user 0) = c.self.invariant.before user place inside (omega arith) in
    subst (λ (l : List ℕ). P l c.index.result.now) c.self.view_is (subst (P uses) (sym read) is)
