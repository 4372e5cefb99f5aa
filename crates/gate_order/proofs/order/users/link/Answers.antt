use Rattle.std.proofs.Common.{◌≡◌, ◌≢◌, ◌+◌, ◌-◌, ◌≤◌, ℕ, length, List, get_or, set, sym, subst, arith}
use Rattle.gate_order.specs.UserLists.{AreLinked}
use Rattle.gate_order.proofs.Linked.{linked_none, linked_more_none, linked_more}
use Rattle.gate_order.proofs.order.users.link.Goals as goal
use Rattle.gate_order.proofs.order.users.link.Goals.{then-named-ne0, else-named-ne0}

pub loop-user-init : goal.loop-user-init
loop-user-init c = linked_none c.args.uses.now c.args.lasts.now c.args.earlier.now c.requires.lasts c.requires.earlier

pub loop-user-preserved : goal.loop-user-preserved
loop-user-preserved c =
    let uses = c.args.uses.now in
    let user = c.loop-user.user in
    let place = get_or uses user 0 - 1 in
    let P : List ℕ → List ℕ → Type 0 = λ lasts earlier. AreLinked uses (user + 1) lasts earlier in
    elim c.if-named-ne0.branch [
      | then-named-ne0 w ↦
          let some : get_or uses user 0 ≢ 0 = w.if-named-ne0.true in
          let within : get_or uses user 0 ≤ length uses = c.requires.within user 0 (omega arith) in
          subst (λ (lasts : List ℕ). P lasts c.if-named-ne0.earlier) (sym w.lasts-is)
          (subst (P (set c.loop-user.lasts place (user + 1))) (sym w.earlier-is)
          (linked_more uses c.loop-user.lasts c.loop-user.earlier user place c.loop-user.invariant (omega arith) (omega arith) (omega arith)))
      | else-named-ne0 w ↦
          subst (λ (lasts : List ℕ). P lasts c.if-named-ne0.earlier) (sym w.lasts-is)
          (subst (P c.loop-user.lasts) (sym w.earlier-is)
          (linked_more_none uses c.loop-user.lasts c.loop-user.earlier user c.loop-user.invariant w.if-named-ne0.false))
    ]

pub returns : goal.returns
returns c =
    let all : c.loop-user.user ≡ length c.args.uses.now = omega arith in
    subst (λ (bound : ℕ). AreLinked c.args.uses.now bound c.loop-user.lasts c.loop-user.earlier) all c.loop-user.invariant
