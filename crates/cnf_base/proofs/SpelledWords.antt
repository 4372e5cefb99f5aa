-- What the words read so far spell.
use Rattle.std.proofs.Common.{◌≡◌, ◌≢◌, ℕ, zero, suc, ◌<◌, ◌≤◌, ◌⊎◌, Bool, true, false, cond, Option, Some, None, Result, Ok, Err, ℤ, pos, negsuc, nat_abs, nat_lt, nat_le, nat_eq, List, [], ◌∷◌, ◌++◌, length, map, refl, sym, ap, ◌∙◌, inl, inr, append_assoc, arith}
use Rattle.std.specs.List.{flat_map, AllByRecursion}
use Rattle.std.proofs.lemmas.Bool.Decides.{nat_tests}
use Rattle.std.proofs.lemmas.List.{map-append, append-nil}
use Rattle.std.proofs.lemmas.List.Concat.{flat_map-append}
use Rattle.text_words.specs.Numbers.{integer_of}
use Rattle.cnf_base.specs.declared.fault.DimacsKind.{DimacsKind}
use Rattle.cnf_base.specs.declared.fault.DimacsKind.TheVariants as kinds
use Rattle.cnf_base.specs.Dimacs.{closed, IsLiteral, Spell}
use Rattle.cnf_base.specs.Reading.{Progress, ended, extended, with_number}
use Rattle.cnf_base.proofs.Placed.{ok-ok}

pub each-push : {A : Type 0} (P : A → Type 0) (xs : List A) (x : A) → AllByRecursion P xs → P x → AllByRecursion P (xs ++ x ∷ [])
each-push P [] y all p = (p, tt)
each-push P (x ∷ xs) y all p = (all.0, each-push P xs y all.1 p)

-- the numbers of clauses, and of the literals begun
abbrev pub numbers : List (List ℤ) → List ℤ → List (Option ℤ)
numbers clauses begun = map (λ z. Some z) (flat_map closed clauses ++ begun)

numbers-begun : (cs : List (List ℤ)) (b : List ℤ) (z : ℤ) → numbers cs b ++ Some z ∷ [] ≡ numbers cs (b ++ z ∷ [])
numbers-begun cs b z =
    sym (map-append (λ (z : ℤ). Some z) (flat_map closed cs ++ b) (z ∷ [])) ∙ ap (map (λ z. Some z)) (append_assoc (flat_map closed cs) b (z ∷ []))

numbers-ended : (cs : List (List ℤ)) (b : List ℤ) → numbers cs (b ++ pos 0 ∷ []) ≡ numbers (cs ++ b ∷ []) []
numbers-ended cs b =
    ap (map (λ z. Some z)) (sym (append-nil (flat_map closed (cs ++ b ∷ [])) ∙ flat_map-append closed cs (b ∷ []) ∙ ap (λ zs. flat_map closed cs ++ zs) (append-nil (closed b))))

spell-push : (ws : List (List ℕ)) (w : List ℕ) (cs : List (List ℤ)) (b : List ℤ) (z : ℤ) → map integer_of ws ≡ numbers cs b → integer_of w ≡ Some z
    → map integer_of (ws ++ w ∷ []) ≡ numbers cs (b ++ z ∷ [])
spell-push ws w cs b z e is =
    map-append integer_of ws (w ∷ []) ∙ ap (λ os. os ++ integer_of w ∷ []) e ∙ ap (λ o. numbers cs b ++ o ∷ []) is ∙ numbers-begun cs b z

pub spell-begun : (v : ℕ) (ws : List (List ℕ)) (w : List ℕ) (cs : List (List ℤ)) (b : List ℤ) (z : ℤ) → Spell v ws cs b → integer_of w ≡ Some z → IsLiteral v z
    → Spell v (ws ++ w ∷ []) cs (b ++ z ∷ [])
spell-begun v ws w cs b z s is lit = record {
  numbers = spell-push ws w cs b z s.numbers is;
  literals = s.literals;
  last = each-push (IsLiteral v) b z s.last lit;
}

pub spell-ended : (v : ℕ) (ws : List (List ℕ)) (w : List ℕ) (cs : List (List ℤ)) (b : List ℤ) → Spell v ws cs b → integer_of w ≡ Some (pos 0)
    → Spell v (ws ++ w ∷ []) (cs ++ b ∷ []) []
spell-ended v ws w cs b s is = record {
  numbers = spell-push ws w cs b (pos 0) s.numbers is ∙ numbers-ended cs b;
  literals = each-push (AllByRecursion (IsLiteral v)) cs b s.literals s.last;
  last = tt;
}

-- what a number that is taken is, and what it leaves
pub record Takes (p q : Progress) (o : Option ℤ) : Type 0 where
  pub vars : q.vars ≡ p.vars
  pub limit : q.limit ≡ p.limit
  pub way : ((o ≡ Some (pos 0)) × (length p.clauses < p.limit) × (q.clauses ≡ p.clauses ++ p.begun ∷ []) × (q.begun ≡ []))
      ⊎ ((z : ℤ) × (o ≡ Some z) × IsLiteral p.vars z × (q.clauses ≡ p.clauses) × (q.begun ≡ p.begun ++ z ∷ []))

choose : {A E : Type 0} (b : Bool) (x y : Result A E) (z : Result A E) → cond b x y ≡ z → ((b ≡ true) × (x ≡ z)) ⊎ ((b ≡ false) × (y ≡ z))
choose true x y z e = inl (refl, e)
choose false x y z e = inr (refl, e)

zero-abs : (z : ℤ) → nat_abs z ≡ 0 → z ≡ pos 0
zero-abs (pos zero) e = refl
zero-abs (pos (suc n)) e = absurd (omega arith)
zero-abs (negsuc n) e = absurd (omega arith)

abs-zero : (z : ℤ) → z ≡ pos 0 → nat_abs z ≡ 0
abs-zero z e = ap nat_abs e

takes-ended : (p q : Progress) (z : ℤ) → nat_abs z ≡ 0 → ended p ≡ Ok q → Takes p q (Some z)
takes-ended p q z is_zero e = elim (choose (nat_lt (length p.clauses) p.limit) (Ok (record { vars = p.vars; limit = p.limit; clauses = p.clauses ++ p.begun ∷ []; begun = [] })) (Err kinds.Count) (Ok q) e) as (λ _. Takes p q (Some z)) [
  | inl h ↦ let is = ok-ok _ _ h.1 in record {
    vars = ap (λ (r : Progress). r.vars) (sym is);
    limit = ap (λ (r : Progress). r.limit) (sym is);
    way = inl (ap (λ (z : ℤ). Some z) (zero-abs z is_zero), grind (arith, nat_tests), ap (λ (r : Progress). r.clauses) (sym is), ap (λ (r : Progress). r.begun) (sym is));
  }
  | inr h ↦ cc
]

takes-begun : (p q : Progress) (z : ℤ) → nat_abs z ≢ 0 → nat_abs z ≤ p.vars → extended p z ≡ q → Takes p q (Some z)
takes-begun p q z some few is = record {
  vars = ap (λ (r : Progress). r.vars) (sym is);
  limit = ap (λ (r : Progress). r.limit) (sym is);
  way = inr (z, refl, record { not_zero = λ e. some (abs-zero z e); variable = few }, ap (λ (r : Progress). r.clauses) (sym is), ap (λ (r : Progress). r.begun) (sym is));
}

pub with_number-takes : (p q : Progress) (o : Option ℤ) → with_number p o ≡ Ok q → Takes p q o
with_number-takes p q None e = cc
with_number-takes p q (Some z) e =
    elim (choose (nat_le (nat_abs z) p.vars) (cond (nat_eq (nat_abs z) 0) (ended p) (Ok (extended p z))) (Err kinds.Literal) (Ok q) e) as (λ _. Takes p q (Some z)) [
      | inl h ↦ elim (choose (nat_eq (nat_abs z) 0) (ended p) (Ok (extended p z)) (Ok q) h.1) as (λ _. Takes p q (Some z)) [
        | inl k ↦ takes-ended p q z (grind (arith, nat_tests)) k.1
        | inr k ↦ takes-begun p q z (grind (arith, nat_tests)) (grind (arith, nat_tests)) (ok-ok _ _ k.1)
      ]
      | inr h ↦ cc
    ]

-- why a number isn't taken
abbrev pub Refuses : Progress → Option ℤ → DimacsKind → Type 0
Refuses p o k =
    ((k ≡ kinds.Literal) × ((z : ℤ) → o ≡ Some z → ¬ (nat_abs z ≤ p.vars)))
    ⊎ ((k ≡ kinds.Count) × (o ≡ Some (pos 0)) × (p.limit ≤ length p.clauses))

pub err-err : {A E : Type 0} (x y : E) → ◌≡◌ {A = Result A E} (Err x) (Err y) → x ≡ y
err-err x y e = cc

pub with_number-refuses : (p : Progress) (o : Option ℤ) (k : DimacsKind) → with_number p o ≡ Err k → Refuses p o k
with_number-refuses p None k e = inl (sym (err-err _ _ e), λ z h. cc)
with_number-refuses p (Some z) k e =
    elim (choose (nat_le (nat_abs z) p.vars) (cond (nat_eq (nat_abs z) 0) (ended p) (Ok (extended p z))) (Err kinds.Literal) (Err k) e) as (λ _. Refuses p (Some z) k) [
      | inl h ↦ elim (choose (nat_eq (nat_abs z) 0) (ended p) (Ok (extended p z)) (Err k) h.1) as (λ _. Refuses p (Some z) k) [
        | inl g ↦ elim (choose (nat_lt (length p.clauses) p.limit) (Ok (record { vars = p.vars; limit = p.limit; clauses = p.clauses ++ p.begun ∷ []; begun = [] })) (Err kinds.Count) (Err k) g.1) as (λ _. Refuses p (Some z) k) [
          | inl f ↦ cc
          | inr f ↦ inr (sym (err-err _ _ f.1), ap (λ (z : ℤ). Some z) (zero-abs z (grind (arith, nat_tests))), grind (arith, nat_tests))
        ]
        | inr g ↦ cc
      ]
      | inr h ↦ inl (sym (err-err _ _ h.1), λ y is few. let same : z ≡ y = cc in let large : p.vars < nat_abs z = grind (arith, nat_tests) in absurd (omega (arith, ap nat_abs same)))
    ]
