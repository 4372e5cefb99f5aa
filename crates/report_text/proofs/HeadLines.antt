-- The head and the end of a report tell their numbers.
use Rattle.std.proofs.Common.{◌≡◌, ℕ, ◌<◌, ◌^◌, Bool, true, false, List, [], ◌∷◌, ◌++◌, refl, arith}
use Rattle.std.specs.Prelude.{codes}
use Rattle.aig_model.specs.Literal.{number}
use Rattle.sim_walk.specs.declared.options.Options.{Options}
use Rattle.report_text.specs.declared.report.Report.{Report}
use Rattle.report_text.specs.Form.{FitsOptions, HasForm}
use Rattle.report_text.specs.Text.{Line, size_words, options_words, head_lines, end_words}
use Rattle.report_text.proofs.Lines.{◌&◌, IsLine, AreLines, word-from_test}
use Rattle.report_text.proofs.Words.{AreNumbers}
use Rattle.report_text.proofs.Pieces.{number_words-is_line, number_words-tells}

number-injective : (a b : Bool) → number a ≡ number b → a ≡ b
number-injective true true e = refl
number-injective false false e = refl
number-injective true false e = cc
number-injective false true e = cc

number-fits : (b : Bool) → number b < 2 ^ 64
number-fits true = omega arith
number-fits false = omega arith

-- ---- options
option_numbers : Options → List ℕ
option_numbers o = o.depth ∷ o.batches ∷ o.length ∷ o.stall ∷ o.hop ∷ o.seed ∷ o.lemmas ∷ o.strength ∷ o.rounds ∷ number o.proofs ∷ []

option_numbers-fit : (o : Options) → FitsOptions o → AreNumbers (option_numbers o)
unfolding option_numbers
option_numbers-fit o f =
    (omega arith) & (omega arith) & (omega arith) & (omega arith) & (omega arith) & f.seed & f.lemmas & (omega arith) & (omega arith) & number-fits o.proofs & tt

options-is_line : (o : Options) → FitsOptions o → IsLine (options_words o)
unfolding options_words option_numbers
options-is_line o f = number_words-is_line (codes "options") (option_numbers o) (word-from_test (codes "options") refl) (option_numbers-fit o f)

options-tells : (o p : Options) → FitsOptions o → FitsOptions p → options_words o ≡ options_words p → o ≡ p
unfolding options_words option_numbers
options-tells o p f g e =
    let same : option_numbers o ≡ option_numbers p = number_words-tells (codes "options") (option_numbers o) (option_numbers p) (option_numbers-fit o f) (option_numbers-fit p g) e in
    let depth : o.depth ≡ p.depth = cc in
    let batches : o.batches ≡ p.batches = cc in
    let length : o.length ≡ p.length = cc in
    let stall : o.stall ≡ p.stall = cc in
    let hop : o.hop ≡ p.hop = cc in
    let seed : o.seed ≡ p.seed = cc in
    let lemmas : o.lemmas ≡ p.lemmas = cc in
    let strength : o.strength ≡ p.strength = cc in
    let rounds : o.rounds ≡ p.rounds = cc in
    let proofs_number : number o.proofs ≡ number p.proofs = cc in
    let proofs : o.proofs ≡ p.proofs = number-injective o.proofs p.proofs proofs_number in
    λ i. record {
      depth = depth i;
      batches = batches i;
      length = length i;
      stall = stall i;
      hop = hop i;
      seed = seed i;
      lemmas = lemmas i;
      strength = strength i;
      rounds = rounds i;
      proofs = proofs i;
    }

-- ---- the head
size_numbers : Report → List ℕ
size_numbers r = r.inputs ∷ r.latches ∷ r.signals ∷ []

size_numbers-fit : (r : Report) → HasForm r → AreNumbers (size_numbers r)
unfolding size_numbers
size_numbers-fit r f = (omega (arith, f.inputs)) & (omega (arith, f.latches)) & (omega (arith, f.signals)) & tt

-- the reports have one size and one list of options
pub record IsSameHead (r s : Report) : Type 0 where
  pub inputs : r.inputs ≡ s.inputs
  pub latches : r.latches ≡ s.latches
  pub signals : r.signals ≡ s.signals
  pub options : r.options ≡ s.options

pub head-plain : (r : Report) → HasForm r → AreLines (head_lines r)
unfolding head_lines size_words size_numbers
head-plain r f =
    (word-from_test (codes "ketch") refl & word-from_test (codes "1") refl & tt) & number_words-is_line (codes "size") (size_numbers r) (word-from_test (codes "size") refl) (size_numbers-fit r f)
    & options-is_line r.options f.options & tt

pub head-tells : (r s : Report) (x y : List Line) → HasForm r → HasForm s → head_lines r ++ x ≡ head_lines s ++ y → IsSameHead r s × (x ≡ y)
unfolding head_lines size_words size_numbers
head-tells r s x y f g e =
    let sizes : size_words r ≡ size_words s = cc in
    let options : options_words r.options ≡ options_words s.options = cc in
    let rest : x ≡ y = cc in
    let numbers : size_numbers r ≡ size_numbers s = number_words-tells (codes "size") (size_numbers r) (size_numbers s) (size_numbers-fit r f) (size_numbers-fit s g) sizes in
    (record { inputs = cc; latches = cc; signals = cc; options = options-tells r.options s.options f.options g.options options }, rest)

-- ---- the end
end_numbers : Report → List ℕ
end_numbers r = r.reached ∷ r.unreachable ∷ r.unsettled ∷ []

end_numbers-fit : (r : Report) → HasForm r → AreNumbers (end_numbers r)
unfolding end_numbers
end_numbers-fit r f = (omega (arith, f.reached)) & (omega (arith, f.unreachable)) & (omega (arith, f.unsettled)) & tt

-- the reports have the same counts
pub record IsSameEnd (r s : Report) : Type 0 where
  pub reached : r.reached ≡ s.reached
  pub unreachable : r.unreachable ≡ s.unreachable
  pub unsettled : r.unsettled ≡ s.unsettled

pub end-is_line : (r : Report) → HasForm r → IsLine (end_words r)
unfolding end_words end_numbers
end-is_line r f = number_words-is_line (codes "end") (end_numbers r) (word-from_test (codes "end") refl) (end_numbers-fit r f)

pub end-tells : (r s : Report) → HasForm r → HasForm s → end_words r ≡ end_words s → IsSameEnd r s
unfolding end_words end_numbers
end-tells r s f g e =
    let numbers : end_numbers r ≡ end_numbers s = number_words-tells (codes "end") (end_numbers r) (end_numbers s) (end_numbers-fit r f) (end_numbers-fit s g) e in
    record { reached = cc; unreachable = cc; unsettled = cc }
