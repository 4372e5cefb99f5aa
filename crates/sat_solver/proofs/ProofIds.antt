-- The id in the proof of a clause of the book.
use Rattle.std.proofs.Common.{◌≡◌, ℕ, ◌<◌, ◌^◌, ℤ, List, length, sym, subst, arith}
use Rattle.std.specs.List.{All}
use Rattle.std.proofs.lemmas.List.Elements.{All-get_or}
use Rattle.std.proofs.lemmas.Option.{slice_get_within}
use Rattle.sat_trail.specs.declared.clause_id.ClauseId.{ClauseId}
use Rattle.sat_trail.specs.declared.clause_id.ClauseId.TheVariants as ids
use Rattle.sat_trail.specs.Trail.{Assignment}
use Rattle.sat_watch.specs.Book.{IsClauseOf}
use Rattle.sat_learn.specs.Reasons.{HasId, HaveIds}
use Rattle.sat_solver.specs.LearnedLemma.{IsProofIdOf}

-- the clause lives under it
pub live_under : (pairs : List (ℕ × List ℤ)) (clauses : List (List ℤ)) (proof_ids : List ℕ) (assignments : List Assignment) (id : ClauseId) (name : ℕ) (clause : List ℤ) → HaveIds pairs clauses proof_ids assignments → IsProofIdOf proof_ids id name → IsClauseOf clauses id clause → HasId pairs name clause
live_under pairs clauses proof_ids assignments (ids.Book place) name clause has_id named here =
    let P : ℕ → Type 0 = λ n. HasId pairs n clause in
    subst P (sym named) (has_id.book place clause here)
live_under pairs clauses proof_ids assignments (ids.Unit id) name clause has_id named here = absurd here

-- it is as small as all
pub small_id : (clauses : List (List ℤ)) (proof_ids : List ℕ) (id : ClauseId) (name : ℕ) (clause : List ℤ) → length proof_ids ≡ length clauses → All (λ n. n < 2 ^ 62) proof_ids → IsProofIdOf proof_ids id name → IsClauseOf clauses id clause → name < 2 ^ 62
small_id clauses proof_ids (ids.Book place) name clause one_id small named here =
    let within = slice_get_within clauses place clause here in
    let P : ℕ → Type 0 = λ n. n < 2 ^ 62 in
    subst P (sym named) (All-get_or (λ n. n < 2 ^ 62) proof_ids place 0 (omega arith) small)
small_id clauses proof_ids (ids.Unit id) name clause one_id small named here = absurd here
