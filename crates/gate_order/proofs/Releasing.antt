-- Users released one after another.
use Rattle.std.proofs.Common.{◌≡◌, ◌≢◌, ℕ, inl, inr, ◌+◌, ◌-◌, ◌<◌, ◌&&◌, Bool, true, false, nat_eq, nat_le, List, ◌∷◌, length, get_or, set, sum, arith, sym, ap, ◌∙◌, subst, refl}
use Rattle.std.specs.List.Sorted.{IsPermutation}
use Rattle.std.proofs.lemmas.Bool.{cases_eq, cases_lt}
use Rattle.std.proofs.lemmas.Bool.Decides.{nat_tests}
use Rattle.std.proofs.lemmas.List.{length-set, get_or-set_same, get_or-set_other}
use Rattle.std.proofs.lemmas.List.Sums.{sum_by-set}
use Rattle.std.proofs.lemmas.List.Sorted.{length_permutation, All-permutation}
use Rattle.std.proofs.lemmas.List.Elements.{All-cons}
use Rattle.aig_model.specs.Literal.{number}
use Rattle.gate_order.specs.UserLists.{IsLastUser}
use Rattle.gate_order.specs.PlaceOrder.{times, is_user, is_user_from, Releases}
use Rattle.gate_order.proofs.Times.{times-cons, times-permutation, equal_number}

-- the counts after one user is counted down
abbrev pub fewer : List ℕ → ℕ → List ℕ
fewer remaining user = set remaining user (get_or remaining user 0 - 1)

module _ (hit more : ℕ → Bool) (waits queue remaining longer : List ℕ) (user : ℕ) (done : Releases hit waits queue remaining longer) (inside : user < length waits) (is_new : hit user ≡ false) (is_hit : more user ≡ true) (others : (u : ℕ) → u < length waits → u ≢ user → more u ≡ hit u) (positive : 0 < get_or remaining user 0) where
  fewer_here : get_or (fewer remaining user) user 0 ≡ get_or remaining user 0 - 1
  fewer_here = get_or-set_same remaining user (get_or remaining user 0 - 1) 0 (omega (arith, done.size))

  fewer_other : (u : ℕ) → u ≢ user → get_or (fewer remaining user) u 0 ≡ get_or remaining u 0
  fewer_other u ne = get_or-set_other remaining user u (get_or remaining user 0 - 1) 0 ne

  fewer_size : length (fewer remaining user) ≡ length waits
  fewer_size = length-set remaining user (get_or remaining user 0 - 1) ∙ done.size

  fewer_sum : sum (fewer remaining user) + 1 ≡ sum remaining
  fewer_sum = omega (arith, sum_by-set (λ n. n) remaining user (get_or remaining user 0 - 1) 0 (omega (arith, done.size)))

  fewer_counts : (u : ℕ) → u < length waits → get_or (fewer remaining user) u 0 + number (more u) ≡ get_or waits u 0
  fewer_counts u h =
      elim (cases_eq u user) [
        | inl e ↦
            let new : number (more u) ≡ 1 = ap (λ v. number (more v)) e ∙ ap number is_hit in
            let old : number (hit u) ≡ 0 = ap (λ v. number (hit v)) e ∙ ap number is_new in
            let here : get_or (fewer remaining user) u 0 ≡ get_or remaining u 0 - 1 = ap (λ v. get_or (fewer remaining user) v 0) e ∙ (fewer_here ∙ ap (λ v. get_or remaining v 0 - 1) (sym e)) in
            let some : 0 < get_or remaining u 0 = subst (λ (v : ℕ). 0 < get_or remaining v 0) (sym e) positive in
            omega (arith, new, old, here, some, done.counts u h)
        | inr ne ↦ omega (arith, fewer_other u ne, ap number (others u h ne), done.counts u h)
      ]

  -- what the queue has of other places
  queued_other : (longest : List ℕ) (u : ℕ) → u < length waits → u ≢ user → times u longest ≡ times u longer
      → times u longest ≡ times u queue + number (more u && nat_eq (get_or (fewer remaining user) u 0) 0)
  queued_other longest u h ne same =
      let now : number (more u && nat_eq (get_or (fewer remaining user) u 0) 0) ≡ number (hit u && nat_eq (get_or remaining u 0) 0) =
      ap (λ b. number (b && nat_eq (get_or (fewer remaining user) u 0) 0)) (others u h ne) ∙ ap (λ n. number (hit u && nat_eq n 0)) (fewer_other u ne)
      in
      omega (arith, same, now, done.queued u h)

  -- and of the place itself before
  queued_before : times user longer ≡ times user queue
  queued_before =
      let none : number (hit user && nat_eq (get_or remaining user 0) 0) ≡ 0 = ap (λ b. number (b && nat_eq (get_or remaining user 0) 0)) is_new in
      omega (arith, none, done.queued user inside)

  now_ready : (n : ℕ) → get_or (fewer remaining user) user 0 ≡ n → number (more user && nat_eq (get_or (fewer remaining user) user 0) 0) ≡ number (nat_eq n 0)
  now_ready n e = ap (λ b. number (b && nat_eq (get_or (fewer remaining user) user 0) 0)) is_hit ∙ ap (λ m. number (nat_eq m 0)) e

  pub releases_ready : (longest : List ℕ) → get_or remaining user 0 - 1 ≡ 0 → IsPermutation (user ∷ longer) longest → Releases more waits queue (fewer remaining user) longest
  releases_ready longest zero moved = record {
    size = fewer_size;
    counts = fewer_counts;
    queued = λ u h.
        let moved_times : times u longest ≡ number (nat_eq user u) + times u longer = times-permutation u (user ∷ longer) longest moved ∙ times-cons u user longer in
        elim (equal_number user u) [
          | inl e ↦
              let here : times user longest ≡ times user queue + number (more user && nat_eq (get_or (fewer remaining user) user 0) 0) =
              omega (
                arith,
                now_ready 0 (fewer_here ∙ zero),
                queued_before,
                subst (λ (v : ℕ). times v longest ≡ number (nat_eq user v) + times v longer) (sym e.0) moved_times,
                subst (λ (v : ℕ). number (nat_eq user v) ≡ 1) (sym e.0) e.1,
              )
              in
              subst (λ (v : ℕ). times v longest ≡ times v queue + number (more v && nat_eq (get_or (fewer remaining user) v 0) 0)) e.0 here
          | inr ne ↦ queued_other longest u h (λ e. ne.0 (sym e)) (omega (arith, moved_times, ne.1))
        ];
    inside = λ all. All-permutation (λ v. v < length waits) (user ∷ longer) longest moved (All-cons (λ v. v < length waits) user longer inside (done.inside all));
    work = omega (arith, fewer_sum, length_permutation (user ∷ longer) longest moved, done.work);
  }

  pub releases_waiting : get_or remaining user 0 - 1 ≢ 0 → Releases more waits queue (fewer remaining user) longer
  releases_waiting some = record {
    size = fewer_size;
    counts = fewer_counts;
    queued = λ u h.
        elim (cases_eq u user) [
          | inl e ↦
              let none : number (nat_eq (get_or remaining user 0 - 1) 0) ≡ 0 = elim (equal_number (get_or remaining user 0 - 1) 0) [ inl zero ↦ absurd (some zero.0) | inr ne ↦ ne.1 ] in
              let here : times user longer ≡ times user queue + number (more user && nat_eq (get_or (fewer remaining user) user 0) 0) =
              omega (arith, now_ready (get_or remaining user 0 - 1) fewer_here, queued_before, none)
              in
              subst (λ (v : ℕ). times v longer ≡ times v queue + number (more v && nat_eq (get_or (fewer remaining user) v 0) 0)) (sym e) here
          | inr ne ↦ queued_other longer u h ne refl
        ];
    inside = done.inside;
    work = omega (arith, fewer_sum, done.work);
  }

-- ---- from the last user to the one before it
module _ (users : List ℕ) (place last earlier : ℕ) (some : 0 < last) (used : get_or users (last - 1) 0 ≡ place + 1) (is : IsLastUser users (last - 1) place earlier) where
  is_user_here : is_user users place (last - 1) ≡ true
  is_user_here = grind (arith, nat_tests)

  pub last_is_new : is_user_from last users place (last - 1) ≡ false
  last_is_new = ap (λ b. b && is_user users place (last - 1)) (let no : nat_le last (last - 1) ≡ false = grind (arith, nat_tests) in no)

  pub last_is_hit : is_user_from earlier users place (last - 1) ≡ true
  last_is_hit =
      let yes : nat_le earlier (last - 1) ≡ true = (let low = is.within in grind (arith, nat_tests)) in
      ap (λ b. b && is_user users place (last - 1)) yes ∙ is_user_here

  pub others_stay : (u : ℕ) → u ≢ last - 1 → is_user_from earlier users place u ≡ is_user_from last users place u
  others_stay u ne =
      elim (cases_lt u last) [
        | inl below ↦
            let no : nat_le last u ≡ false = grind (arith, nat_tests) in
            elim (cases_lt u earlier) [
              | inl low ↦
                  let none : nat_le earlier u ≡ false = grind (arith, nat_tests) in
                  ap (λ b. b && is_user users place u) (none ∙ sym no)
              | inr high ↦
                  let between : get_or users u 0 ≢ place + 1 = is.none u high (omega arith) in
                  let other : is_user users place u ≡ false = grind (arith, nat_tests) in
                  let yes : nat_le earlier u ≡ true = grind (arith, nat_tests) in
                  ap (λ b. b && is_user users place u) yes ∙ (other ∙ sym (ap (λ b. b && is_user users place u) no))
            ]
        | inr above ↦
            let low = is.within in
            let yes : nat_le last u ≡ true = grind (arith, nat_tests) in
            let also : nat_le earlier u ≡ true = grind (arith, nat_tests) in
            ap (λ b. b && is_user users place u) (also ∙ sym yes)
      ]
