-- What is asked of a header, behind its magic word.
use Rattle.std.proofs.Common.{◌≡◌, ℕ, true, false, cond, nat_eq, None, Some, List, [], ◌∷◌, ◌++◌, drop, get_or, refl, sym, ap, ◌∙◌, subst, arith}
use Rattle.std.specs.List.{starts_with}
use Rattle.text_words.specs.Text.{Rest, fields, PassesField, PassesFields, IsMagic}
use Rattle.aig_ascii.specs.Demands.{Demand, demand}
use Rattle.aig_ascii.specs.Fields.{missing_at, wanted, want_demands, wants_demands, none_demands}
use Rattle.aig_ascii.specs.Header.{header_fields, header_wants, header_demands, magic_of, fits, sizes_of, within_limit}
use Rattle.aig_ascii.specs.FirstFaults.{first_unmet, Fails}
use Rattle.aig_ascii.specs.declared.header.Format.{Format}
use Rattle.aig_ascii.specs.declared.header.Format.TheVariants.{Ascii, Binary}
use Rattle.aig_ascii.specs.declared.fault.Fault.{Fault}
use Rattle.aig_ascii.specs.declared.fault.SharedKind.TheVariants.{Header}
use Rattle.aig_ascii.proofs.FirstFaults.{Unmet, first_unmet-behind, fails-front, met-front}
use Rattle.aig_ascii.proofs.Wants.{wants_demands-same, field-there}
use Rattle.aig_ascii.specs.declared.fault.SharedKind.{SharedKind}

abbrev pub Starts : Format → Rest → Type 0
Starts format r = starts_with nat_eq r.bytes (magic_of format ++ 32 ∷ []) ≡ true

pub magic-is : (format : Format) (bytes : List ℕ) → bytes ≡ magic_of format ++ 32 ∷ [] → IsMagic bytes (magic_of format)
magic-is Ascii bytes e = record { some = omega arith; letters = refl; form = e }
magic-is Binary bytes e = record { some = omega arith; letters = refl; form = e }

pub starts-with : (format : Format) (r : Rest) (bytes : List ℕ) → bytes ≡ magic_of format ++ 32 ∷ [] → true ≡ starts_with nat_eq r.bytes bytes → Starts format r
starts-with format r bytes e starts = ap (starts_with nat_eq r.bytes) (sym e) ∙ sym starts

-- the numbers, and then M, and then no more fields
abbrev behind_magic : {K : Type 0} (kind : SharedKind → K) → Format → Rest → List (Demand K)
behind_magic kind format r = wants_demands kind r (header_fields r) (header_wants kind) ++ demand (get_or (header_fields r) 0 r).at (kind Header) (fits format (sizes_of r)) ∷ none_demands kind (drop 9 (header_fields r))

past-magic : {K : Type 0} (kind : SharedKind → K) (format : Format) (r : Rest) → Starts format r → first_unmet (header_demands kind format r) ≡ first_unmet (behind_magic kind format r)
past-magic kind format r starts = ap (λ t. cond t (first_unmet (behind_magic kind format r)) (Some (r.at, kind Header))) starts

wants-passed : {K : Type 0} (kind : SharedKind → K) (r s : Rest) → PassesField r s → wants_demands kind s (fields s) (header_wants kind) ≡ wants_demands kind r (header_fields r) (header_wants kind)
wants-passed kind r s p = ap (λ fs. wants_demands kind s fs (header_wants kind)) p.others ∙ wants_demands-same kind r s (header_fields r) (header_wants kind) (ap (missing_at kind) p.end)

pub header-numbers-fail : {K : Type 0} (kind : SharedKind → K) (e : Fault K) (format : Format) (r s : Rest) → Starts format r → PassesField r s → Fails e (first_unmet (wants_demands kind s (fields s) (header_wants kind)))
    → Fails e (first_unmet (header_demands kind format r))
header-numbers-fail {K} kind e format r s starts p f =
    let numbers = wants_demands kind r (header_fields r) (header_wants kind) in
    subst (λ (o : Unmet K). Fails e o) (sym (past-magic kind format r starts)) (fails-front e numbers _ (subst (λ ds. Fails e (first_unmet ds)) (wants-passed kind r s p) f))

pub header-top-fails : {K : Type 0} (kind : SharedKind → K) (format : Format) (r s : Rest) → Starts format r → PassesField r s → first_unmet (wants_demands kind s (fields s) (header_wants kind)) ≡ None → fits format (sizes_of r) ≡ false
    → first_unmet (header_demands kind format r) ≡ Some (s.at, kind Header)
header-top-fails kind format r s starts p met other =
    let numbers = wants_demands kind r (header_fields r) (header_wants kind) in
    let last = none_demands kind (drop 9 (header_fields r)) in
    let first = field-there kind s (within_limit kind ∷ []) (met-front (want_demands kind s (wanted (within_limit kind ∷ [])) (fields s)) (wants_demands kind s (drop 1 (fields s)) (drop 1 (header_wants kind))) met) in
    let here : (get_or (header_fields r) 0 r).at ≡ s.at = ap (λ fs. (get_or fs 0 r).at) (sym p.others ∙ first) in
    past-magic kind format r starts
    ∙ first_unmet-behind numbers (demand (get_or (header_fields r) 0 r).at (kind Header) (fits format (sizes_of r)) ∷ last) (sym (ap first_unmet (wants-passed kind r s p)) ∙ met)
    ∙ ap (λ t. cond t (first_unmet last) (Some ((get_or (header_fields r) 0 r).at, kind Header))) other
    ∙ ap (λ n. Some (n, kind Header)) here

-- past the test of M
past-top : {K : Type 0} (kind : SharedKind → K) (format : Format) (r s t : Rest) → Starts format r → PassesField r s → first_unmet (wants_demands kind s (fields s) (header_wants kind)) ≡ None → fits format (sizes_of r) ≡ true → PassesFields 9 s t
    → first_unmet (header_demands kind format r) ≡ first_unmet (none_demands kind (fields t))
past-top kind format r s t starts p met room q =
    let numbers = wants_demands kind r (header_fields r) (header_wants kind) in
    let last = none_demands kind (drop 9 (header_fields r)) in
    past-magic kind format r starts
    ∙ first_unmet-behind numbers (demand (get_or (header_fields r) 0 r).at (kind Header) (fits format (sizes_of r)) ∷ last) (sym (ap first_unmet (wants-passed kind r s p)) ∙ met)
    ∙ ap (λ t. cond t (first_unmet last) (Some ((get_or (header_fields r) 0 r).at, kind Header))) room
    ∙ ap (λ fs. first_unmet (none_demands kind fs)) (sym (q.others ∙ ap (drop 9) p.others))

pub header-end-fails : {K : Type 0} (kind : SharedKind → K) (e : Fault K) (format : Format) (r s t : Rest) → Starts format r → PassesField r s → first_unmet (wants_demands kind s (fields s) (header_wants kind)) ≡ None
    → fits format (sizes_of r) ≡ true → PassesFields 9 s t → Fails e (first_unmet (none_demands kind (fields t))) → Fails e (first_unmet (header_demands kind format r))
header-end-fails {K} kind e format r s t starts p met room q f = subst (λ (o : Unmet K). Fails e o) (sym (past-top kind format r s t starts p met room q)) f

pub header-met : {K : Type 0} (kind : SharedKind → K) (format : Format) (r s t : Rest) → Starts format r → PassesField r s → first_unmet (wants_demands kind s (fields s) (header_wants kind)) ≡ None → fits format (sizes_of r) ≡ true
    → PassesFields 9 s t → first_unmet (none_demands kind (fields t)) ≡ None → first_unmet (header_demands kind format r) ≡ None
header-met kind format r s t starts p met room q none = past-top kind format r s t starts p met room q ∙ none
