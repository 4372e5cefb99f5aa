use Rattle.std.proofs.Common.{rules, ◌≡◌, ◌+◌, ◌<◌, ℤ, List, Bool, [], ◌∷◌, ◌++◌, true, false, nat_abs, length, take, get_or, ap, sym, ◌∙◌, subst, arith, inl, inr}
use mir.Val.{SFits}
use mir.Syntax.{w64}
use Rattle.std.proofs.lemmas.List.{take_all}
use Rattle.std.proofs.lemmas.List.{get_or-set_same}
use Rattle.std.proofs.lemmas.Int.{to_z-of_z}
use Rattle.cnf_base.specs.Status.{has}
use Rattle.sat_learn.specs.Premises.{IsFoundIn}
use Rattle.sat_learn.specs.declared.explanation.Derivation.{Derivation}
use Rattle.sat_learn.specs.Resolving.{is_marked}
use Rattle.sat_learn.specs.Explaining.{IsNoted}
use Rattle.sat_learn.proofs.MarkedLiterals.{has_at}
use Rattle.sat_learn.proofs.Explanations.{known_in_range, assignment_known, false_below, take_next, found_below, found_last}
use Rattle.sat_learn.proofs.explanation.+derive.Goals as goal
use Rattle.sat_learn.proofs.explanation.+derive.Goals.{then-var+in_ok-whole+else-not-whole, else-var}

pub bounds-marks-var : goal.bounds-marks-var
bounds-marks-var t c =
    let small = known_in_range c.args.premises.now.trail c.args.marks.now c.args.lit c.requires.explained.trail c.requires.room c.requires.known in
    omega (arith, small, c.var.ensures.size)

pub find_antecedent-requires-clause-in_range : goal.find_antecedent-requires-clause-in_range
find_antecedent-requires-clause-in_range t c =
    let small = known_in_range c.args.premises.now.trail c.args.marks.now c.args.lit c.requires.explained.trail c.requires.room c.requires.known in
    omega (arith, small, c.var-2.ensures.size, c.requires.room)

pub derive-requires : goal.derive-requires
derive-requires t c =
    let trail = c.args.premises.now.trail in
    let other = c.other-item.result in
    let unmarked : is_marked c.args.marks.now c.args.lit ≡ false = ap (λ n. get_or c.args.marks.now n false) (sym c.var.ensures.size) ∙ c.if-marks-var.false in
    let assignment = assignment_known c.args.premises.now.book.clauses c.args.premises.now.proof_ids.items trail c.args.marks.now c.args.lit c.var-2.result c.in-Some.found.lits.now c.in-Some.found.hint c.requires.known unmarked c.var-2.ensures.size c.in-Some.ensures in
    let inside = has_at c.in-Some.found.lits.now c.loop-other.other-index other other c.loop-other-test.true c.other-item.is in
    let differs : nat_abs other ≡ nat_abs c.args.lit → ⊥ = λ e. c.if-var.true (c.var-in-loop-other.ensures.size ∙ e ∙ sym c.var-in-loop-other-2.ensures.size) in
    let below = false_below c.args.premises.now.book.clauses c.args.premises.now.proof_ids.items trail c.args.marks.now c.args.lit other c.in-Some.found.lits.now c.in-Some.found.hint c.requires.explained.trail assignment inside differs in
    (omega (arith, c.decreases, c.if-depth-eq0.false), (c.requires.explained, (c.loop-other.auto.marks ∙ c.requires.room, (c.loop-other.invariant.noted, inr below))))

pub returns-then-not-whole-clause-found : goal.returns-then-not-whole-clause-found
returns-then-not-whole-clause-found t c =
    let trail = c.args.premises.now.trail in
    let other = c.other-item.result in
    let unmarked : is_marked c.args.marks.now c.args.lit ≡ false = ap (λ n. get_or c.args.marks.now n false) (sym c.var.ensures.size) ∙ c.if-marks-var.false in
    let assignment = assignment_known c.args.premises.now.book.clauses c.args.premises.now.proof_ids.items trail c.args.marks.now c.args.lit c.var-2.result c.in-Some.found.lits.now c.in-Some.found.hint c.requires.known unmarked c.var-2.ensures.size c.in-Some.ensures in
    let inside = has_at c.in-Some.found.lits.now c.loop-other.other-index other other c.loop-other-test.true c.other-item.is in
    let differs : nat_abs other ≡ nat_abs c.args.lit → ⊥ = λ e. c.if-var.true (c.var-in-loop-other.ensures.size ∙ e ∙ sym c.var-in-loop-other-2.ensures.size) in
    found_below c.args.premises.now.book.clauses c.args.premises.now.proof_ids.items trail c.args.lit other c.in-Some.found.lits.now c.in-Some.found.hint c.args.marks.now c.loop-other.marks c.derive.new.marks c.args.derivation.now.hints.items c.loop-other.derivation.hints.items c.derive.new.derivation.hints.items c.requires.explained.trail assignment inside differs c.loop-other.invariant.found c.in_ok-whole.ensures.found

pub loop-other-preserved : goal.loop-other-preserved
loop-other-preserved t c =
    let trail = c.args.premises.now.trail in
    let other = c.other-item.result in
    let reason = c.in-Some.found in
    let before = c.loop-other.invariant in
    let unmarked : is_marked c.args.marks.now c.args.lit ≡ false = ap (λ n. get_or c.args.marks.now n false) (sym c.var.ensures.size) ∙ c.if-marks-var.false in
    let assignment = assignment_known c.args.premises.now.book.clauses c.args.premises.now.proof_ids.items trail c.args.marks.now c.args.lit c.var-2.result reason.lits.now reason.hint c.requires.known unmarked c.var-2.ensures.size c.in-Some.ensures in
    let inside = has_at reason.lits.now c.loop-other.other-index other other c.loop-other-test.true c.other-item.is in
    let I : List Bool → Derivation → Type 0 = λ ms d. record {
      noted : IsNoted ms d.marked.items;
      found : IsFoundIn c.args.premises.now (c.args.lit ∷ []) c.args.marks.now c.args.derivation.now.hints.items ms d.hints.items;
      marked : (m : ℤ) → has (take (c.loop-other.other-index + 1) reason.lits.now) m ≡ true → (nat_abs m ≡ nat_abs c.args.lit → ⊥) → is_marked ms m ≡ true;
    } in
    elim c.if-var.branch [
      | then-var+in_ok-whole+else-not-whole w ↦ (let differs : nat_abs other ≡ nat_abs c.args.lit → ⊥ = λ e. w.if-var.true (c.var-in-loop-other.ensures.size ∙ e ∙ sym c.var-in-loop-other-2.ensures.size) in
          let whole = w.in_ok-whole.ensures in
          let ms = w.derive.new.marks in
          let M : ℤ → Type 0 = λ x. is_marked ms x ≡ true in
          let I_d : Derivation → Type 0 = λ d. I ms d in
          let I_ms : List Bool → Type 0 = λ x. I x c.if-var.derivation in
          let next = found_below c.args.premises.now.book.clauses c.args.premises.now.proof_ids.items trail c.args.lit other reason.lits.now reason.hint c.args.marks.now c.loop-other.marks w.derive.new.marks c.args.derivation.now.hints.items c.loop-other.derivation.hints.items w.derive.new.derivation.hints.items c.requires.explained.trail assignment inside differs before.found whole.found in
          subst I_ms (sym w.marks-is) (subst I_d (sym w.derivation-is) (record {
            noted = whole.noted;
            found = next;
            marked = λ m k apart. elim (take_next reason.lits.now c.loop-other.other-index other m c.loop-other-test.true c.other-item.is k) [
              | inl e ↦ whole.found.grows (nat_abs m) (before.marked m e apart)
              | inr e ↦ subst M e (whole.marked w.if-not-whole.false)
            ];
          })))
      | else-var w ↦ (let I_d : Derivation → Type 0 = λ d. I c.loop-other.marks d in
          let I_ms : List Bool → Type 0 = λ x. I x c.if-var.derivation in
          subst I_ms (sym w.marks-is) (subst I_d (sym w.derivation-is) (record {
            noted = before.noted;
            found = before.found;
            marked = λ m k apart. elim (take_next reason.lits.now c.loop-other.other-index other m c.loop-other-test.true c.other-item.is k) [
              | inl e ↦ before.marked m e apart
              | inr e ↦ absurd (apart (ap nat_abs (sym e) ∙ sym c.var-in-loop-other.ensures.size ∙ w.if-var.false ∙ c.var-in-loop-other-2.ensures.size))
            ];
          })))
    ]

pub mark-requires-clause-in_range : goal.mark-requires-clause-in_range
mark-requires-clause-in_range t c =
    let small = known_in_range c.args.premises.now.trail c.args.marks.now c.args.lit c.requires.explained.trail c.requires.room c.requires.known in
    omega (arith, small, c.loop-other.auto.marks)

pub returns-clause-found : goal.returns-clause-found
returns-clause-found t c =
    let trail = c.args.premises.now.trail in
    let found = c.in-Some.found in
    let unmarked : is_marked c.args.marks.now c.args.lit ≡ false = ap (λ n. get_or c.args.marks.now n false) (sym c.var.ensures.size) ∙ c.if-marks-var.false in
    let assignment = assignment_known c.args.premises.now.book.clauses c.args.premises.now.proof_ids.items trail c.args.marks.now c.args.lit c.var-2.result found.lits.now found.hint c.requires.known unmarked c.var-2.ensures.size c.in-Some.ensures in
    let small = known_in_range trail c.args.marks.now c.args.lit c.requires.explained.trail c.requires.room c.requires.known in
    let room : nat_abs c.args.lit < length c.loop-other.marks = omega (arith, small, c.loop-other.auto.marks) in
    let all = take_all c.loop-other.other-index found.lits.now c.loop-other-test.false in
    let fits : SFits w64 found.hint = search rules in
    let old = c.loop-other.derivation.hints.items in
    let pushed : c.push.new.self.items ≡ old ++ found.hint ∷ [] = c.in_ok-push.ensures.items ∙ ap (λ z. c.mark.new.derivation.hints.items ++ z ∷ []) (to_z-of_z w64 found.hint fits) ∙ ap (λ v. v.items ++ found.hint ∷ []) c.in_ok-mark.ensures.hints in
    let M : List Bool → Type 0 = λ ms. IsFoundIn c.args.premises.now (c.args.lit ∷ []) c.args.marks.now c.args.derivation.now.hints.items ms c.push.new.self.items in
    subst M (sym c.in_ok-mark.ensures.marks)
    (found_last c.args.premises.now.book.clauses c.args.premises.now.proof_ids.items trail c.args.lit found.lits.now found.hint c.args.marks.now c.loop-other.marks c.args.derivation.now.hints.items old c.push.new.self.items c.requires.explained.trail assignment room
    (λ m inside differs. (let H : List ℤ → Type 0 = λ ls. has ls m ≡ true in c.loop-other.invariant.marked m (subst H (sym all) inside) differs))
    pushed c.loop-other.invariant.found)

pub returns-clause-marked : goal.returns-clause-marked
returns-clause-marked t c whole =
    let small = known_in_range c.args.premises.now.trail c.args.marks.now c.args.lit c.requires.explained.trail c.requires.room c.requires.known in
    let room : nat_abs c.args.lit < length c.loop-other.marks = omega (arith, small, c.loop-other.auto.marks) in
    ap (λ ms. get_or ms (nat_abs c.args.lit) false) c.in_ok-mark.ensures.marks ∙ get_or-set_same c.loop-other.marks (nat_abs c.args.lit) true false room
