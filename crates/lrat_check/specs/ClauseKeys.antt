-- How clauses with the same literals are found: by a key that is the same for them.
use Rattle.std.specs.Prelude.{◌≡◌, Bool, true, ℤ, List, Vec}
use Rattle.std.specs.List.{list_any}
use Rattle.std.specs.List.Sorted.{IsStrictlySortedBy}
use Rattle.std.specs.Ordering.{int_cmp}
use Rattle.std.specs.Cmp.Lexicographic.{slice_cmp}
use Rattle.std.specs.BTreeSet.{BTreeSet, contains_by}
use Rattle.std.specs.Global.{Global}
use Rattle.cnf_base.specs.Status.{has}
use Rattle.lrat_text.specs.declared.proof.LratStep.{LratStep}
use Rattle.lrat_text.specs.declared.proof.LratStep.TheVariants.{Add, Delete}
use Rattle.lrat_check.specs.SpentFault.{same_literals, adds_lemma, with_lemma}

-- the literals of a clause in rising order, each once
pub record IsKeyOf (lits key : List ℤ) : Type 0 where
  pub rising : IsStrictlySortedBy int_cmp key
  pub same : (l : ℤ) → has key l ≡ has lits l

abbrev pub Keys : Type 0
Keys = BTreeSet (Vec ℤ Global)

-- whether a key is one of the set
abbrev pub holds : Keys → List ℤ → Bool
holds keys key = contains_by (λ k. slice_cmp int_cmp key k.items) keys

-- the key of what a step adds is one of the set
abbrev pub HoldsStep : Keys → LratStep → Type 0
HoldsStep keys (Add id lits hints) = (key : List ℤ) → IsKeyOf lits key → holds keys key ≡ true
HoldsStep keys (Delete at ids) = Unit {0}

-- of the keys that are asked for, those of the earlier clauses are taken
abbrev pub AreTaken : Keys → Keys → List (List ℤ) → Type 0
AreTaken asked taken earlier = (lits key : List ℤ) → IsKeyOf lits key → holds asked key ≡ true → holds taken key ≡ list_any (same_literals lits) earlier

-- a step that is asked for adds a lemma or not, and its key is taken where it does
abbrev pub TakesStep : Keys → Keys → LratStep → Bool → Type 0
TakesStep old new step lemma = (asked : Keys) (earlier : List (List ℤ)) → AreTaken asked old earlier → HoldsStep asked step → (lemma ≡ adds_lemma earlier step) × (lemma ≡ true → AreTaken asked new (with_lemma earlier step))
