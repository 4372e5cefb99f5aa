use Rattle.std.proofs.Common.{◌≡◌, ℤ, true, nat_abs, List, [], ◌∷◌, length, ap, sym, subst, arith, rules, inl, inr}
use Rattle.std.specs.List.{All}
use Rattle.std.proofs.lemmas.Bool.{cases_lt}
use Rattle.std.proofs.lemmas.List.Elements.{All-cons, All-nil}
use Rattle.cnf_base.specs.Status.{has}
use Rattle.sat_trail.specs.declared.truth.Value.TheVariants.{Unset}
use Rattle.sat_trail.specs.Trail.{Assignment, TrailState, lits, value_in, IsTrail}
use Rattle.sat_trail.proofs.Levels.{upto-all}
use Rattle.sat_trail.proofs.LiteralValues.{unset_says}
use Rattle.sat_watch.specs.Book.{BookState, NoneFalse, NoneUnit}
use Rattle.sat_watch.specs.Ready.{IsReady, IsSettled}
use Rattle.sat_watch.specs.Scanning.{HasTwoFree}
use Rattle.sat_watch.proofs.Choice.{has_at}
use Rattle.sat_watch.proofs.Rests.{IsQuiet, quiet_from_rests}
use Rattle.solver_rows.proofs.book_steps.decide_again.Goals as goal

-- the only clause has two open literals
settled_again : (b : BookState) (t : TrailState) (clause : List ℤ) → IsReady b t → IsTrail t → b.clauses ≡ clause ∷ [] → HasTwoFree (lits t.assignments) clause → IsSettled b t
settled_again b t clause ready trail only two =
    let C : List ℤ → List ℤ → Type 0 = λ ls c. IsQuiet ls c in
    let quiet = quiet_from_rests (lits t.assignments) clause (inr two) in
    let P : List (List ℤ) → Type 0 = λ cs. All (C (lits t.assignments)) cs in
    let all = subst P (sym only) (All-cons (C (lits t.assignments)) clause [] quiet (All-nil (C (lits t.assignments)))) in
    let F : List Assignment → Type 0 = λ ps. NoneFalse b.clauses (lits ps) in
    let U : List Assignment → Type 0 = λ ps. NoneUnit b.clauses (lits ps) in
    record {
      followed = ready.followed;
      none_false = λ k. elim (cases_lt k t.level) [
        | inl lt ↦ ready.none_false k lt
        | inr ge ↦ subst F (sym (upto-all k 0 t.assignments t.level trail.climbs ge)) (λ i d within. (all i d within).not_false)
      ];
      none_unit = λ k. elim (cases_lt k t.level) [
        | inl lt ↦ ready.none_unit k lt
        | inr ge ↦ subst U (sym (upto-all k 0 t.assignments t.level trail.climbs ge)) (λ i d within. (all i d within).not_unit)
      ];
    }

pub decide-requires : goal.decide-requires
decide-requires g c =
    let clause = c.args.clause.now in
    let first = c.get.result.now in
    let second = c.get-2.result.now in
    let true_lits = lits c.args.trail.now.assignments in
    let P : ℤ → Type 0 = λ l. has clause l ≡ true in
    let three : length clause ≡ 3 = omega (arith, c.len.ensures) in
    let first_unset : value_in true_lits first ≡ Unset = search rules in
    let second_unset : value_in true_lits second ≡ Unset = search rules in
    settled_again c.args.book.now c.args.trail.now clause c.requires.ready c.vars.ensures.well_formed c.requires.only
    (record {
      first = first;
      second = second;
      first_in = subst P (sym c.get.ensures) (has_at clause 1 first (omega arith));
      second_in = subst P (sym c.get-2.ensures) (has_at clause 2 second (omega arith));
      different = λ e. absurd (omega (arith, ap nat_abs e, c.var-3.ensures.size, c.var-4.ensures.size));
      first_free = (unset_says true_lits first first_unset).1;
      second_free = (unset_says true_lits second second_unset).1;
    })
