-- A formula that grows by one list of clauses after another.
use Rattle.std.proofs.Common.{◌≡◌, ℕ, ◌+◌, ℤ, List, [], ◌∷◌, ◌++◌, sym, ap, ◌∙◌, append_assoc, zero-add}
use Rattle.std.proofs.lemmas.List.{append-nil}
use Rattle.std.proofs.lemmas.List.Concat.{flat_map-append}
use Rattle.std.specs.List.{flat_map, range_with_len}
use Rattle.cnf_base.specs.Meaning.{CnfFormula}
use Rattle.unroll.specs.Building.{with_clauses}
use Rattle.unroll.proofs.UndefinedVars.{range_push}

pub grows : (f g h : CnfFormula) (done more both : List (List ℤ)) → g ≡ with_clauses f done → h ≡ with_clauses g more → both ≡ done ++ more
    → h ≡ with_clauses f both
grows f g h done more both first second e =
    second
    ∙ (ap (λ (k : CnfFormula). with_clauses k more) first
    ∙ ap (λ (cs : List (List ℤ)). record { vars = f.vars; clauses = cs }) (append_assoc f.clauses done more ∙ ap (λ cs. f.clauses ++ cs) (sym e)))

-- one step more
pub steps_more : (f : ℕ → List (List ℤ)) (n : ℕ) → flat_map f (range_with_len 0 (n + 1)) ≡ flat_map f (range_with_len 0 n) ++ f n
steps_more f n =
    ap (flat_map f) (range_push 0 n)
    ∙ (flat_map-append f (range_with_len 0 n) ((0 + n) ∷ [])
    ∙ ap (λ (cs : List (List ℤ)). flat_map f (range_with_len 0 n) ++ cs) (append-nil (f (0 + n)) ∙ ap f (zero-add n)))
