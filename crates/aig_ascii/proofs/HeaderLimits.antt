-- The numbers of a header that is right are within the limit.
use Rattle.std.proofs.Common.{◌≡◌, ℕ, zero, suc, ◌<◌, ◌≤◌, true, false, nat_eq, nat_le, is_some, None, List, [], ◌∷◌, ◌++◌, map, drop, length, get_or, refl, sym, ap, ◌∙◌, subst, arith}
use Rattle.std.specs.List.{AllByRecursion, starts_with}
use Rattle.std.proofs.lemmas.Bool.Decides.{nat_tests}
use Rattle.text_words.specs.Numbers.{natural_of}
use Rattle.aig_model.specs.WellFormed.{limit}
use Rattle.text_words.specs.Text.{Rest, number, word}
use Rattle.aig_ascii.specs.Demands.{Demand, demand}
use Rattle.aig_ascii.specs.Fields.{Test, Want, want_demands, wants_demands, none_demands}
use Rattle.aig_ascii.specs.Header.{AreFew, header_fields, header_wants, header_demands, magic_of, fits, size_at, sizes_of, within_limit, no_liveness}
use Rattle.aig_ascii.specs.FirstFaults.{first_unmet}
use Rattle.aig_ascii.specs.declared.header.Format.{Format}
use Rattle.aig_ascii.specs.declared.fault.SharedKind.{SharedKind}
use Rattle.aig_ascii.specs.declared.fault.SharedKind.TheVariants.{Header, Number, Limit}
use Rattle.aig_ascii.proofs.FirstFaults.{met-front, met-rest, met-first}

-- the first test of a field is that of the limit
record IsLimited {K : Type 0} (kind : SharedKind → K) (want : Want K) : Type 0 where
  others : List (Test K)
  tests : want.tests ≡ within_limit kind ∷ others

below-limit : (n : ℕ) → nat_le n limit ≡ true → n ≤ limit
below-limit n e = grind (arith, nat_tests)

first-few : {K : Type 0} (kind : SharedKind → K) (r : Rest) (want : Want K) (fs : List Rest) → IsLimited kind want → first_unmet (want_demands kind r want fs) ≡ None → size_at fs 0 ≤ limit
first-few kind r want [] limited e = omega arith
first-few {K} kind r want (f ∷ fs) limited e =
    let tests : List (Test K) → List (Demand K) = λ ts. map (λ (t : Test K). demand f.at t.kind (t.passes (number f))) ts in
    let behind = (met-first (demand f.at (kind Number) (is_some (natural_of (word f.bytes)))) (tests want.tests) e).1 in
    let own : first_unmet (tests (within_limit kind ∷ limited.others)) ≡ None = ap (λ (ts : List (Test K)). first_unmet (tests ts)) (sym limited.tests) ∙ behind in
    below-limit (number f) (met-first (demand f.at (kind Limit) (nat_le (number f) limit)) (tests limited.others) own).0

size-later : (fs : List Rest) (k : ℕ) → size_at (drop 1 fs) k ≡ size_at fs (suc k)
size-later [] zero = refl
size-later [] (suc k) = refl
size-later (f ∷ fs) k = refl

each-few : {K : Type 0} (kind : SharedKind → K) (r : Rest) (fs : List Rest) (wants : List (Want K)) (k : ℕ) → AllByRecursion (IsLimited kind) wants → first_unmet (wants_demands kind r fs wants) ≡ None → k < length wants
    → size_at fs k ≤ limit
each-few kind r fs [] k limited e inside = absurd (omega arith)
each-few kind r fs (want ∷ wants) zero limited e inside =
    first-few kind r want fs limited.0 (met-front (want_demands kind r want fs) (wants_demands kind r (drop 1 fs) wants) e)
each-few kind r fs (want ∷ wants) (suc k) limited e inside =
    subst (λ (n : ℕ). n ≤ limit) (size-later fs k)
    (each-few kind r (drop 1 fs) wants k limited.1 (met-rest (want_demands kind r want fs) (wants_demands kind r (drop 1 fs) wants) e) (omega arith))

limited-wants : {K : Type 0} (kind : SharedKind → K) → AllByRecursion (IsLimited kind) (header_wants kind)
limited-wants kind =
    let size : IsLimited kind (record { optional = false; tests = within_limit kind ∷ [] }) = record { others = []; tests = refl } in
    let last : IsLimited kind (record { optional = true; tests = within_limit kind ∷ [] }) = record { others = []; tests = refl } in
    let none : IsLimited kind (record { optional = true; tests = within_limit kind ∷ no_liveness kind ∷ [] }) = record { others = no_liveness kind ∷ []; tests = refl } in
    (size, (size, (size, (size, (size, (last, (last, (none, (none, tt)))))))))

pub header-few : {K : Type 0} (kind : SharedKind → K) (format : Format) (r : Rest) → first_unmet (header_demands kind format r) ≡ None → AreFew (sizes_of r)
header-few kind format r m =
    let fs = header_fields r in
    let begins = demand r.at (kind Header) (starts_with nat_eq r.bytes (magic_of format ++ 32 ∷ [])) in
    let numbers = wants_demands kind r fs (header_wants kind) in
    let others = demand (get_or fs 0 r).at (kind Header) (fits format (sizes_of r)) ∷ none_demands kind (drop 9 fs) in
    let right = (met-first begins numbers (met-front (begins ∷ numbers) others m)).1 in
    let each : (k : ℕ) → k < 9 → size_at fs k ≤ limit = λ k inside. each-few kind r fs (header_wants kind) k (limited-wants kind) right inside in
    record {
      top = each 0 (omega arith);
      inputs = each 1 (omega arith);
      latches = each 2 (omega arith);
      outputs = each 3 (omega arith);
      gates = each 4 (omega arith);
      bads = each 5 (omega arith);
      constraints = each 6 (omega arith);
    }
