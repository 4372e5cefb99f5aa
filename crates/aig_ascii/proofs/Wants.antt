-- The first fault of a line whose first fields are right.
use Rattle.std.proofs.Common.{◌≡◌, ℕ, zero, suc, ◌+◌, Bool, true, false, cond, None, List, [], ◌∷◌, ◌++◌, length, map, take, drop, get_or, refl, sym, ap, ◌∙◌, subst, append_assoc, length-append, arith}
use Rattle.text_words.specs.Text.{Rest, ends_line, later_fields, fields, number, PassesField, PassesFields}
use Rattle.aig_ascii.specs.Fields.{Test, Want, wanted, missing, missing_at, want_demands, wants_demands, none_demands, line_demands}
use Rattle.aig_ascii.specs.FirstFaults.{first_unmet, Fails}
use Rattle.aig_ascii.specs.declared.fault.Fault.{Fault}
use Rattle.aig_ascii.proofs.FirstFaults.{fails-front, fails-behind, first_unmet-behind}
use Rattle.aig_ascii.specs.declared.fault.SharedKind.{SharedKind}

-- what is asked of fields depends on where the line ends, and on no more of it
pub want_demands-same : {K : Type 0} (kind : SharedKind → K) (r s : Rest) (w : Want K) (fs : List Rest) → missing kind s ≡ missing kind r → want_demands kind s w fs ≡ want_demands kind r w fs
want_demands-same kind r s w [] e = ap (λ d. cond w.optional [] (d ∷ [])) e
want_demands-same kind r s w (f ∷ fs) e = refl

-- where the demands on a field that must stand here are met, it stands here
pub field-there : {K : Type 0} (kind : SharedKind → K) (s : Rest) (tests : List (Test K)) → first_unmet (want_demands kind s (wanted tests) (fields s)) ≡ None → fields s ≡ s ∷ later_fields s.at s.bytes
field-there kind s tests met =
    let all = s ∷ later_fields s.at s.bytes in
    let step : (e : Bool) → ends_line s.bytes ≡ e → first_unmet (want_demands kind s (wanted tests) (cond e [] all)) ≡ None → fields s ≡ all = λ e. elim e as (λ v. ends_line s.bytes ≡ v → first_unmet (want_demands kind s (wanted tests) (cond v [] all)) ≡ None → fields s ≡ all) [
      | true ↦ λ is h. cc
      | false ↦ λ is h. ap (λ t. cond t [] all) is
    ] in
    step (ends_line s.bytes) refl met

-- the second and the third field of a line
pub two-fields : (r s t : Rest) → PassesField r s → PassesField s t → fields s ≡ s ∷ later_fields s.at s.bytes → fields t ≡ t ∷ later_fields t.at t.bytes → take 2 (drop 1 (fields r)) ≡ s ∷ t ∷ []
two-fields r s t p q first second =
    let behind : later_fields s.at s.bytes ≡ t ∷ later_fields t.at t.bytes = sym (ap (drop 1) first) ∙ sym q.others ∙ second in
    ap (take 2) (sym p.others ∙ first ∙ ap (λ fs. s ∷ fs) behind)

-- ---- any number of fields

pub passes-none : (r : Rest) → PassesFields 0 r r
passes-none r = record { others = refl; end = refl; next = refl }

drop-none : (n : ℕ) → drop {A = Rest} n [] ≡ []
drop-none zero = refl
drop-none (suc n) = refl

pub drop-first : (n : ℕ) (xs : List Rest) → drop n (drop 1 xs) ≡ drop (suc n) xs
drop-first n [] = drop-none n
drop-first n (x ∷ xs) = refl

drop-last : (n : ℕ) (xs : List Rest) → drop 1 (drop n xs) ≡ drop (suc n) xs
drop-last zero xs = refl
drop-last (suc n) [] = refl
drop-last (suc n) (x ∷ xs) = drop-last n xs

pub passes-more : (n : ℕ) (r s t : Rest) → PassesFields n r s → PassesField s t → PassesFields (suc n) r t
passes-more n r s t p q = record { others = q.others ∙ ap (drop 1) p.others ∙ drop-last n (fields r); end = q.end ∙ p.end; next = q.next ∙ p.next }

drop-sum : (m n : ℕ) (xs : List Rest) → drop m (drop n xs) ≡ drop (n + m) xs
drop-sum m zero xs = ap (λ k. drop k xs) (omega arith)
drop-sum m (suc n) [] = drop-none m ∙ sym (drop-none (suc n + m))
drop-sum m (suc n) (x ∷ xs) = drop-sum m n xs ∙ ap (λ k. drop k (x ∷ xs)) (let e : suc (n + m) ≡ suc n + m = omega arith in e)

pub passes-both : (m n : ℕ) (r s t : Rest) → PassesFields n r s → PassesFields m s t → PassesFields (n + m) r t
passes-both m n r s t p q = record { others = q.others ∙ ap (drop m) p.others ∙ drop-sum m n (fields r); end = q.end ∙ p.end; next = q.next ∙ p.next }

-- what is asked of the first fields, and of the others
pub wants_demands-append : {K : Type 0} (kind : SharedKind → K) (r : Rest) (fs : List Rest) (ws vs : List (Want K)) → wants_demands kind r fs (ws ++ vs) ≡ wants_demands kind r fs ws ++ wants_demands kind r (drop (length ws) fs) vs
wants_demands-append kind r fs [] vs = refl
wants_demands-append kind r fs (w ∷ ws) vs =
    ap (λ ds. want_demands kind r w fs ++ ds) (wants_demands-append kind r (drop 1 fs) ws vs ∙ ap (λ gs. wants_demands kind r (drop 1 fs) ws ++ wants_demands kind r gs vs) (drop-first (length ws) fs))
    ∙ sym (append_assoc (want_demands kind r w fs) (wants_demands kind r (drop 1 fs) ws) (wants_demands kind r (drop (suc (length ws)) fs) vs))

pub wants_demands-same : {K : Type 0} (kind : SharedKind → K) (r s : Rest) (fs : List Rest) (ws : List (Want K)) → missing kind s ≡ missing kind r → wants_demands kind s fs ws ≡ wants_demands kind r fs ws
wants_demands-same kind r s fs [] e = refl
wants_demands-same kind r s fs (w ∷ ws) e = ap (λ ds. ds ++ wants_demands kind s (drop 1 fs) ws) (want_demands-same kind r s w fs e) ∙ ap (λ ds. want_demands kind r w fs ++ ds) (wants_demands-same kind r s (drop 1 fs) ws e)

wants_demands-passed : {K : Type 0} (kind : SharedKind → K) (n : ℕ) (r s : Rest) (ws : List (Want K)) → PassesFields n r s → wants_demands kind s (fields s) ws ≡ wants_demands kind r (drop n (fields r)) ws
wants_demands-passed kind n r s ws p = ap (λ fs. wants_demands kind s fs ws) p.others ∙ wants_demands-same kind r s (drop n (fields r)) ws (ap (missing_at kind) p.end)

pub wants-met : {K : Type 0} (kind : SharedKind → K) (r s : Rest) (ws vs : List (Want K)) → PassesFields (length ws) r s → first_unmet (wants_demands kind r (fields r) ws) ≡ None → first_unmet (wants_demands kind s (fields s) vs) ≡ None
    → first_unmet (wants_demands kind r (fields r) (ws ++ vs)) ≡ None
wants-met kind r s ws vs p met more =
    ap first_unmet (wants_demands-append kind r (fields r) ws vs)
    ∙ first_unmet-behind (wants_demands kind r (fields r) ws) (wants_demands kind r (drop (length ws) (fields r)) vs) met
    ∙ sym (ap first_unmet (wants_demands-passed kind (length ws) r s vs p)) ∙ more

pub wants-fail : {K : Type 0} (kind : SharedKind → K) (e : Fault K) (r s : Rest) (ws vs : List (Want K)) → PassesFields (length ws) r s → first_unmet (wants_demands kind r (fields r) ws) ≡ None → Fails e (first_unmet (wants_demands kind s (fields s) vs))
    → Fails e (first_unmet (wants_demands kind r (fields r) (ws ++ vs)))
wants-fail kind e r s ws vs p met fails =
    subst (λ ds. Fails e (first_unmet ds)) (sym (wants_demands-append kind r (fields r) ws vs))
    (fails-behind e (wants_demands kind r (fields r) ws) (wants_demands kind r (drop (length ws) (fields r)) vs) met (subst (λ ds. Fails e (first_unmet ds)) (wants_demands-passed kind (length ws) r s vs p) fails))

-- one field
pub want-met : {K : Type 0} (kind : SharedKind → K) (r : Rest) (w : Want K) → first_unmet (want_demands kind r w (fields r)) ≡ None → first_unmet (wants_demands kind r (fields r) (w ∷ [])) ≡ None
want-met kind r w met = first_unmet-behind (want_demands kind r w (fields r)) [] met

pub want-fails : {K : Type 0} (kind : SharedKind → K) (e : Fault K) (r : Rest) (w : Want K) (ws : List (Want K)) → Fails e (first_unmet (want_demands kind r w (fields r))) → Fails e (first_unmet (wants_demands kind r (fields r) (w ∷ ws)))
want-fails kind e r w ws f = fails-front e (want_demands kind r w (fields r)) (wants_demands kind r (drop 1 (fields r)) ws) f

-- the first fields are as wanted, and are passed
pub record Passed {K : Type 0} (kind : SharedKind → K) (r : Rest) (wants : List (Want K)) (s : Rest) : Type 0 where
  pub passes : PassesFields (length wants) r s
  pub met : first_unmet (wants_demands kind r (fields r) wants) ≡ None

pub passed-none : {K : Type 0} (kind : SharedKind → K) (r : Rest) → Passed kind r [] r
passed-none kind r = record { passes = passes-none r; met = refl }

pub passed-more : {K : Type 0} {kind : SharedKind → K} {r s t : Rest} {wants : List (Want K)} → (w : Want K) → Passed kind r wants s → first_unmet (want_demands kind s w (fields s)) ≡ None → PassesField s t
    → Passed kind r (wants ++ w ∷ []) t
passed-more {kind = kind} {r = r} {s = s} {t = t} {wants = wants} w p met q =
    let size : suc (length wants) ≡ length (wants ++ w ∷ []) = omega (arith, length-append wants (w ∷ [])) in
    record {
      passes = subst (λ n. PassesFields n r t) size (passes-more (length wants) r s t p.passes q);
      met = wants-met kind r s wants (w ∷ []) p.passes p.met (want-met kind s w met);
    }

pub passed-fails : {K : Type 0} {kind : SharedKind → K} {r s : Rest} {wants : List (Want K)} → (e : Fault K) (w : Want K) (ws : List (Want K)) → Passed kind r wants s → Fails e (first_unmet (want_demands kind s w (fields s)))
    → Fails e (first_unmet (wants_demands kind r (fields r) (wants ++ w ∷ ws)))
passed-fails {kind = kind} {r = r} {s = s} {wants = wants} e w ws p f = wants-fail kind e r s wants (w ∷ ws) p.passes p.met (want-fails kind e s w ws f)

-- the numbers of the fields that are left
get_or-drop_fields : (n k : ℕ) (fs : List Rest) → get_or (map number (drop n fs)) k 0 ≡ get_or (map number fs) (n + k) 0
get_or-drop_fields zero k fs = ap (λ i. get_or (map number fs) i 0) (omega arith)
get_or-drop_fields (suc n) k [] = refl
get_or-drop_fields (suc n) k (f ∷ fs) = get_or-drop_fields n k fs ∙ ap (λ i. get_or (map number (f ∷ fs)) i 0) (let e : suc (n + k) ≡ suc n + k = omega arith in e)

pub number-passed : (n k : ℕ) (r s : Rest) → PassesFields n r s → get_or (map number (fields s)) k 0 ≡ get_or (map number (fields r)) (n + k) 0
number-passed n k r s p = ap (λ fs. get_or (map number fs) k 0) p.others ∙ get_or-drop_fields n k (fields r)

pub wants-fail-front : {K : Type 0} (kind : SharedKind → K) (e : Fault K) (r : Rest) (ws vs : List (Want K)) → Fails e (first_unmet (wants_demands kind r (fields r) ws)) → Fails e (first_unmet (wants_demands kind r (fields r) (ws ++ vs)))
wants-fail-front kind e r ws vs f =
    subst (λ ds. Fails e (first_unmet ds)) (sym (wants_demands-append kind r (fields r) ws vs)) (fails-front e (wants_demands kind r (fields r) ws) (wants_demands kind r (drop (length ws) (fields r)) vs) f)

-- ---- a line whose first fields are right

pub second-fails : {K : Type 0} (kind : SharedKind → K) (e : Fault K) (r s : Rest) (v w : Want K) (ws : List (Want K)) → first_unmet (want_demands kind r v (fields r)) ≡ None → PassesField r s → Fails e (first_unmet (want_demands kind s w (fields s)))
    → Fails e (first_unmet (line_demands kind (v ∷ w ∷ ws) r))
second-fails kind e r s v w ws met p fails =
    fails-front e (wants_demands kind r (fields r) (v ∷ w ∷ ws)) (none_demands kind (drop (length (v ∷ w ∷ ws)) (fields r)))
    (wants-fail kind e r s (v ∷ []) (w ∷ ws) (passes-more 0 r r s (passes-none r) p) (want-met kind r v met) (want-fails kind e s w ws fails))

pub third-fails : {K : Type 0} (kind : SharedKind → K) (e : Fault K) (r s t : Rest) (u v w : Want K) (ws : List (Want K)) → first_unmet (want_demands kind r u (fields r)) ≡ None → PassesField r s
    → first_unmet (want_demands kind s v (fields s)) ≡ None → PassesField s t → Fails e (first_unmet (want_demands kind t w (fields t))) → Fails e (first_unmet (line_demands kind (u ∷ v ∷ w ∷ ws) r))
third-fails kind e r s t u v w ws met p met' q fails =
    let first = passes-more 0 r r s (passes-none r) p in
    fails-front e (wants_demands kind r (fields r) (u ∷ v ∷ w ∷ ws)) (none_demands kind (drop (length (u ∷ v ∷ w ∷ ws)) (fields r)))
    (wants-fail kind e r t (u ∷ v ∷ []) (w ∷ ws) (passes-more 1 r s t first q) (wants-met kind r s (u ∷ []) (v ∷ []) first (want-met kind r u met) (want-met kind s v met')) (want-fails kind e t w ws fails))
