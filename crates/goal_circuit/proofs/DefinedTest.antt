-- Whether a variable is defined, section by section.
use Rattle.std.proofs.Common.{◌≡◌, ℕ, Bool, true, false, ◌||◌, ◌==◌, List, [], ◌∷◌, ◌++◌, map, refl, sym, ap, ◌∙◌}
use Rattle.std.specs.List.{list_any}
use Rattle.aig_model.specs.Literal.{var}
use Rattle.aig_model.specs.WellFormed.{defined, latch_lits, left_sides}
use Rattle.aig_model.specs.declared.parts.Latch.{Latch}
use Rattle.aig_model.specs.declared.parts.AndGate.{AndGate}
use Rattle.aig_model.specs.declared.parts.Parts.{Parts}

or_assoc : (a b c : Bool) → ((a || b) || c) ≡ (a || (b || c))
or_assoc true b c = refl
or_assoc false b c = refl

any_append : (x : ℕ) (xs ys : List ℕ) → list_any (λ v. v == x) (map var (xs ++ ys)) ≡ (list_any (λ v. v == x) (map var xs) || list_any (λ v. v == x) (map var ys))
any_append x [] ys = refl
any_append x (y ∷ xs) ys =
    ap (λ b. (var y == x) || b) (any_append x xs ys)
    ∙ sym (or_assoc (var y == x) (list_any (λ v. v == x) (map var xs)) (list_any (λ v. v == x) (map var ys)))

any_latches : (x : ℕ) (latches : List Latch) → list_any (λ v. v == x) (map var (latch_lits latches)) ≡ list_any (λ v. v == x) (map (λ (l : Latch). var l.lit) latches)
any_latches x [] = refl
any_latches x (l ∷ latches) = ap (λ b. (var l.lit == x) || b) (any_latches x latches)

any_gates : (x : ℕ) (gates : List AndGate) → list_any (λ v. v == x) (map var (left_sides gates)) ≡ list_any (λ v. v == x) (map (λ (g : AndGate). var g.lhs) gates)
any_gates x [] = refl
any_gates x (g ∷ gates) = ap (λ b. (var g.lhs == x) || b) (any_gates x gates)

pub any_defined : (c : Parts) (x : ℕ) → list_any (λ v. v == x) (defined c)
    ≡ (list_any (λ v. v == x) (map var c.inputs) || (list_any (λ v. v == x) (map (λ (l : Latch). var l.lit) c.latches) || list_any (λ v. v == x) (map (λ (g : AndGate). var g.lhs) c.gates)))
any_defined c x =
    any_append x c.inputs (latch_lits c.latches ++ left_sides c.gates)
    ∙ ap (λ b. list_any (λ v. v == x) (map var c.inputs) || b)
    (any_append x (latch_lits c.latches) (left_sides c.gates)
    ∙ (ap (λ b. b || list_any (λ v. v == x) (map var (left_sides c.gates))) (any_latches x c.latches)
    ∙ ap (λ b. list_any (λ v. v == x) (map (λ (l : Latch). var l.lit) c.latches) || b) (any_gates x c.gates)))
