use Rattle.std.proofs.Common.{◌≡◌, ◌+◌, ◌∷◌, ◌++◌, [], rules, arith, false, ℤ, List, take, subst, sym, ap, ◌∙◌}
use Rattle.std.proofs.lemmas.List.{take_all, take_more}
use Rattle.std.proofs.lemmas.List.Elements.{same_from_all_zip}
use Rattle.lrat_check.specs.ClauseKeys.{IsKeyOf, Keys, holds, AreTaken}
use Rattle.lrat_check.proofs.ClauseKeys.{AreTaken-insert, AreTaken-skip}
use Rattle.lrat_check.proofs.key.taken_keys.Goals as goal
use Rattle.lrat_check.proofs.key.taken_keys.Goals.{then-contains+in_ok-clone+in_ok-insert, else-contains}

pub loop-clause-preserved : goal.loop-clause-preserved
loop-clause-preserved c =
    let asked : Keys = c.args.asked.now in
    let i = c.loop-clause.clause-index in
    let earlier : List (List ℤ) = take i c.args.clauses.now in
    let clause : List ℤ = c.clause-item.result in
    let key : List ℤ = c.fill_key.new.key.items in
    let P : Keys → Type 0 = λ keys. AreTaken asked keys (take (i + 1) c.args.clauses.now) in
    let Q : List ℤ → Type 0 = λ lits. IsKeyOf lits key in
    let is : IsKeyOf clause key = subst Q c.as_slice.ensures c.in_ok-fill_key.ensures in
    let more : take (i + 1) c.args.clauses.now ≡ earlier ++ clause ∷ [] = take_more c.args.clauses.now i clause (omega arith) ∙ ap (λ (x : List ℤ). earlier ++ x ∷ []) (sym c.clause-item.is) in
    elim c.if-contains.branch [
      | then-contains+in_ok-clone+in_ok-insert w ↦
          let same : w.in_ok-clone.field-0.items ≡ key = search (rules, same_from_all_zip) in
          let R : List (List ℤ) → Type 0 = AreTaken asked w.insert.new.self in
          subst P (sym w.taken-is) (subst R (sym more) (AreTaken-insert asked c.loop-clause.taken w.insert.new.self earlier clause w.in_ok-clone.field-0 c.loop-clause.invariant
          (let S : List ℤ → Type 0 = IsKeyOf clause in subst S (sym same) is) w.in_ok-insert.ensures.keys))
      | else-contains w ↦
          let R : List (List ℤ) → Type 0 = AreTaken asked c.loop-clause.taken in
          let absent : holds asked key ≡ false = ap (holds asked) (sym c.as_slice-in-loop-clause.ensures.value) ∙ sym c.contains.ensures ∙ w.if-contains.false in
          subst P (sym w.taken-is) (subst R (sym more) (AreTaken-skip asked c.loop-clause.taken earlier clause key c.loop-clause.invariant is absent))
    ]

pub returns : goal.returns
returns c =
    let P : List (List ℤ) → Type 0 = AreTaken c.args.asked.now c.loop-clause.taken in
    subst P (take_all c.loop-clause.clause-index c.args.clauses.now (omega arith)) c.loop-clause.invariant
