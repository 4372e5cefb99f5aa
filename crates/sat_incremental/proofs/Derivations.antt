-- Entries that get one more.
use Rattle.std.proofs.Common.{◌≡◌, ℕ, ◌+◌, ◌<◌, ℤ, neg_ℤ, Some, List, [], ◌∷◌, ◌++◌, length, map, refl, ap, sym, ◌∙◌, subst, arith}
use Rattle.std.specs.List.{enumerate_from}
use Rattle.std.proofs.lemmas.List.{append-nil, append_assoc, map_push, length-map, length-append}
use Rattle.lrat_text.specs.Standing.{clause_at}
use Rattle.lrat_text.specs.Spent.{SameLiterals}
use Rattle.sat_learn.specs.Reasons.{HasId, Follows}
use Rattle.sat_solver.proofs.Growth.{slice_get-push, clause_at-enumerate, enumerate_from-append}
use Rattle.sat_incremental.specs.declared.entry.Entry.{Entry}
use Rattle.sat_incremental.specs.declared.entry.Entry.TheVariants.{Given, Lemma}
use Rattle.sat_incremental.specs.Entries.{clause_of, clauses, given, live, DerivesFrom, IsDerivation, AreLemmas, GrowsByLemmas}

pub clauses-push : (entries : List Entry) (entry : Entry) → clauses (entries ++ entry ∷ []) ≡ clauses entries ++ clause_of entry ∷ []
clauses-push entries entry = map_push clause_of entries entry

length-clauses : (entries : List Entry) → length (clauses entries) ≡ length entries
length-clauses entries = length-map entries clause_of

pub live-push : (entries : List Entry) (entry : Entry) → live (entries ++ entry ∷ []) ≡ live entries ++ (length entries + 1, clause_of entry) ∷ []
live-push entries entry =
    let number : 1 + length (clauses entries) ≡ length entries + 1 = omega (arith, length-clauses entries) in
    ap (enumerate_from 1) (clauses-push entries entry)
    ∙ enumerate_from-append 1 (clauses entries) (clause_of entry ∷ [])
    ∙ ap (λ (n : ℕ). live entries ++ (n, clause_of entry) ∷ []) number

-- the newest entry lives under its place
pub newest-live : (entries : List Entry) (entry : Entry) (id : ℕ) → id ≡ length entries + 1 → clause_at (live (entries ++ entry ∷ [])) id ≡ Some (clause_of entry)
newest-live entries entry id is =
    let P : List (List ℤ) → Type 0 = λ cs. clause_at (enumerate_from 1 cs) id ≡ Some (clause_of entry) in
    let Q : ℕ → Type 0 = λ n. clause_at (enumerate_from 1 (clauses entries ++ clause_of entry ∷ [])) n ≡ Some (clause_of entry) in
    let here : 1 + length (clauses entries) ≡ id = omega (arith, length-clauses entries) in
    subst P (sym (clauses-push entries entry)) (subst Q here (clause_at-enumerate 1 (clauses entries ++ clause_of entry ∷ []) (length (clauses entries)) (clause_of entry) (slice_get-push (clauses entries) (clause_of entry))))

pub newest_has_id : (entries : List Entry) (entry : Entry) (id : ℕ) → id ≡ length entries + 1 → HasId (live (entries ++ entry ∷ [])) id (clause_of entry)
newest_has_id entries entry id is = (clause_of entry, newest-live entries entry id is, λ l. refl)

-- ---- the clauses of the formula

pub given-append : (xs ys : List Entry) → given (xs ++ ys) ≡ given xs ++ given ys
given-append [] ys = refl
given-append (Given lits ∷ xs) ys = ap (λ cs. lits ∷ cs) (given-append xs ys)
given-append (Lemma lits hints ∷ xs) ys = given-append xs ys

pub given-lemma : (entries : List Entry) (lits hints : List ℤ) → given (entries ++ Lemma lits hints ∷ []) ≡ given entries
given-lemma entries lits hints = given-append entries (Lemma lits hints ∷ []) ∙ append-nil (given entries)

pub given-given : (entries : List Entry) (lits : List ℤ) → given (entries ++ Given lits ∷ []) ≡ given entries ++ lits ∷ []
given-given entries lits = given-append entries (Given lits ∷ [])

-- ---- lemmas

derives-lemma : (earlier : List (List ℤ)) (entries : List Entry) (lits hints : List ℤ) → DerivesFrom earlier entries → Follows (enumerate_from 1 (earlier ++ clauses entries)) (map neg_ℤ lits) hints → DerivesFrom earlier (entries ++ Lemma lits hints ∷ [])
derives-lemma earlier [] lits hints h follows =
    let P : List (List ℤ) → Type 0 = λ cs. Follows (enumerate_from 1 cs) (map neg_ℤ lits) hints in
    (subst P (append-nil earlier) follows, tt)
derives-lemma earlier (Given c ∷ entries) lits hints h follows =
    let P : List (List ℤ) → Type 0 = λ cs. Follows (enumerate_from 1 cs) (map neg_ℤ lits) hints in
    derives-lemma (earlier ++ c ∷ []) entries lits hints h (subst P (sym (append_assoc earlier (c ∷ []) (clauses entries))) follows)
derives-lemma earlier (Lemma c hs ∷ entries) lits hints h follows =
    let P : List (List ℤ) → Type 0 = λ cs. Follows (enumerate_from 1 cs) (map neg_ℤ lits) hints in
    (h.0, derives-lemma (earlier ++ c ∷ []) entries lits hints h.1 (subst P (sym (append_assoc earlier (c ∷ []) (clauses entries))) follows))

derives-given : (earlier : List (List ℤ)) (entries : List Entry) (lits : List ℤ) → DerivesFrom earlier entries → DerivesFrom earlier (entries ++ Given lits ∷ [])
derives-given earlier [] lits h = tt
derives-given earlier (Given c ∷ entries) lits h = derives-given (earlier ++ c ∷ []) entries lits h
derives-given earlier (Lemma c hs ∷ entries) lits h = (h.0, derives-given (earlier ++ c ∷ []) entries lits h.1)

pub derivation-lemma : (entries : List Entry) (lits hints : List ℤ) → IsDerivation entries → Follows (live entries) (map neg_ℤ lits) hints → IsDerivation (entries ++ Lemma lits hints ∷ [])
derivation-lemma entries lits hints h follows = derives-lemma [] entries lits hints h follows

pub derivation-given : (entries : List Entry) (lits : List ℤ) → IsDerivation entries → IsDerivation (entries ++ Given lits ∷ [])
derivation-given entries lits h = derives-given [] entries lits h

-- ---- growth

lemmas-append : (xs ys : List Entry) → AreLemmas xs → AreLemmas ys → AreLemmas (xs ++ ys)
lemmas-append [] ys h k = k
lemmas-append (Given lits ∷ xs) ys h k = absurd h
lemmas-append (Lemma lits hints ∷ xs) ys h k = lemmas-append xs ys h k

pub grows-nothing : (old new : List Entry) → new ≡ old → GrowsByLemmas old 0 new
grows-nothing old new is = ([], is ∙ sym (append-nil old), tt, refl)

pub grows-one : (old new : List Entry) (lits hints : List ℤ) → new ≡ old ++ Lemma lits hints ∷ [] → GrowsByLemmas old 1 new
grows-one old new lits hints is = (Lemma lits hints ∷ [], is, tt, refl)

pub grows-then : (a b c : List Entry) (m n : ℕ) → GrowsByLemmas a m b → GrowsByLemmas b n c → GrowsByLemmas a (m + n) c
grows-then a b c m n h k = (
  h.0 ++ k.0,
  k.1 ∙ ap (λ xs. xs ++ k.0) h.1 ∙ append_assoc a h.0 k.0,
  lemmas-append h.0 k.0 h.2 k.2,
  length-append h.0 k.0 ∙ ap (λ x. x + length k.0) h.3 ∙ ap (λ x. m + x) k.3,
)
