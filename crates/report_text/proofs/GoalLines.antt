-- The goals' section of a report tells its blocks.
use Rattle.std.proofs.Common.{◌≡◌, ℕ, ◌<◌, ◌^◌, List, [], ◌∷◌, ◌++◌, map, get_or, refl, sym, ap, arith, Option, Some, None}
use Rattle.std.specs.Prelude.{codes, decimal, IfSome}
use Rattle.std.specs.List.{AllByRecursion}
use Rattle.std.proofs.lemmas.Fmt.{decimal_injective}
use Rattle.lrat_text.specs.declared.proof.LratStep.{LratStep}
use Rattle.report_text.specs.declared.report.HopBound.{HopBound}
use Rattle.report_text.specs.declared.report.HopBound.TheVariants.{To, Nothing, NoSeed}
use Rattle.report_text.specs.declared.report.GoalBlock.{GoalBlock}
use Rattle.report_text.specs.declared.report.GoalBlock.TheVariants.{Reached, Unreachable, Open}
use Rattle.report_text.specs.Form.{IsCounted, FitsHop, FitsBlock, FitsUnreachable}
use Rattle.report_text.specs.Text.{Word, Line, bound_text, hop_text, open_words, witness_lines, proof_lines, block_lines, goals_lines}
use Rattle.report_text.proofs.Lines.{◌&◌, IsWord, IsLine, AreLines, word-from_test}
use Rattle.report_text.proofs.Words.{decimal-is_word, decimal-no_letter}
use Rattle.report_text.proofs.Pieces.{IsSpelling, all-append, section-is_spelling}
use Rattle.report_text.proofs.WitnessLines.{witness-is_spelling}
use Rattle.report_text.proofs.ProofLines.{proof-is_spelling}

-- ---- bounds
abbrev FitsBound : Option ℕ → Type 0
FitsBound b = IfSome b (λ n. n < 2 ^ 32)

bound-is_word : (b : Option ℕ) → FitsBound b → IsWord (bound_text b)
unfolding bound_text
bound-is_word None h = word-from_test (codes "none") refl
bound-is_word (Some n) h = decimal-is_word n (omega arith)

bound-tells : (a b : Option ℕ) → FitsBound a → FitsBound b → bound_text a ≡ bound_text b → a ≡ b
unfolding bound_text
bound-tells None None p q e = refl
bound-tells None (Some n) p q e = absurd (decimal-no_letter n (codes "none") (omega arith) (omega arith) (sym e))
bound-tells (Some m) None p q e = absurd (decimal-no_letter m (codes "none") (omega arith) (omega arith) e)
bound-tells (Some m) (Some n) p q e = ap (λ (k : ℕ). Some k) (decimal_injective m n (omega arith) (omega arith) e)

-- ---- hops
hop-is_word : (h : HopBound) → FitsHop h → IsWord (hop_text h)
unfolding hop_text
hop-is_word (To n) f = decimal-is_word n (omega arith)
hop-is_word Nothing f = word-from_test (codes "none") refl
hop-is_word NoSeed f = word-from_test (codes "noseed") refl

hops-are_words : (hs : List HopBound) → AllByRecursion FitsHop hs → AllByRecursion IsWord (map hop_text hs)
hops-are_words [] f = tt
hops-are_words (h ∷ hs) f = (hop-is_word h f.0, hops-are_words hs f.1)

hop-tells : (h k : HopBound) → FitsHop h → FitsHop k → hop_text h ≡ hop_text k → h ≡ k
unfolding hop_text
hop-tells (To m) (To n) f g e = ap (λ (b : ℕ). To b) (decimal_injective m n (omega arith) (omega arith) e)
hop-tells (To m) Nothing f g e = absurd (decimal-no_letter m (codes "none") (omega arith) (omega arith) e)
hop-tells (To m) NoSeed f g e = absurd (decimal-no_letter m (codes "noseed") (omega arith) (omega arith) e)
hop-tells Nothing (To n) f g e = absurd (decimal-no_letter n (codes "none") (omega arith) (omega arith) (sym e))
hop-tells Nothing Nothing f g e = refl
hop-tells Nothing NoSeed f g e = absurd (omega (arith, ap (λ (w : Word). get_or w 2 0) e))
hop-tells NoSeed (To n) f g e = absurd (decimal-no_letter n (codes "noseed") (omega arith) (omega arith) (sym e))
hop-tells NoSeed Nothing f g e = absurd (omega (arith, ap (λ (w : Word). get_or w 2 0) e))
hop-tells NoSeed NoSeed f g e = refl

no_hop : (h : HopBound) → FitsHop h → codes "strength" ≡ hop_text h → ⊥
unfolding hop_text
no_hop (To n) f e = decimal-no_letter n (codes "strength") (omega arith) (omega arith) (sym e)
no_hop Nothing f e = omega (arith, ap (λ (w : Word). get_or w 0 0) e)
no_hop NoSeed f e = omega (arith, ap (λ (w : Word). get_or w 0 0) e)

hops-tell : (hs ks : List HopBound) (x y : Line) → AllByRecursion FitsHop hs → AllByRecursion FitsHop ks → map hop_text hs ++ codes "strength" ∷ x ≡ map hop_text ks ++ codes "strength" ∷ y
    → (hs ≡ ks) × (x ≡ y)
hops-tell [] [] x y f g e = let rest : x ≡ y = cc in (refl, rest)
hops-tell [] (k ∷ ks) x y f g e = let heads : codes "strength" ≡ hop_text k = cc in absurd (no_hop k g.0 heads)
hops-tell (h ∷ hs) [] x y f g e = let heads : codes "strength" ≡ hop_text h = cc in absurd (no_hop h f.0 heads)
hops-tell (h ∷ hs) (k ∷ ks) x y f g e =
    let heads : hop_text h ≡ hop_text k = cc in
    let tails : map hop_text hs ++ codes "strength" ∷ x ≡ map hop_text ks ++ codes "strength" ∷ y = cc in
    let rest = hops-tell hs ks x y f.1 g.1 tails in
    let head : h ≡ k = hop-tells h k f.0 g.0 heads in
    let tail : hs ≡ ks = rest.0 in
    (cc, rest.1)

-- ---- blocks
open-is_line : (goal : ℕ) (depth : Option ℕ) (hops : List HopBound) (strength : Option ℕ) → goal < 2 ^ 64 → FitsBound depth → AllByRecursion FitsHop hops → FitsBound strength
    → IsLine (open_words goal depth hops strength)
unfolding open_words
open-is_line goal depth hops strength h d f s =
    word-from_test (codes "goal") refl & decimal-is_word goal h & word-from_test (codes "open") refl & word-from_test (codes "depth") refl & bound-is_word depth d & word-from_test (codes "hops") refl
    & all-append IsWord (map hop_text hops) (codes "strength" ∷ bound_text strength ∷ []) (hops-are_words hops f) (word-from_test (codes "strength") refl & bound-is_word strength s & tt)

block-plain : (inputs latches goal : ℕ) (b : GoalBlock) → goal < 2 ^ 32 → FitsBlock inputs latches b → AreLines (block_lines goal b)
unfolding block_lines
block-plain inputs latches goal (Reached n witness) h f = (
  word-from_test (codes "goal") refl & decimal-is_word goal (omega arith) & word-from_test (codes "reached") refl & decimal-is_word n f.0 & tt,
  (witness-is_spelling inputs latches goal (omega arith)).plain witness f.1,
)
block-plain inputs latches goal (Unreachable n inv proof) h f = (
  word-from_test (codes "goal") refl & decimal-is_word goal (omega arith) & word-from_test (codes "unreachable") refl & decimal-is_word n f.number_fits & word-from_test (codes "inv") refl
      & decimal-is_word inv (omega (arith, f.inv_fits)) & tt,
  proof-is_spelling.plain proof f.proof,
)
block-plain inputs latches goal (Open depth hops strength) h f = (open-is_line goal depth hops strength (omega arith) f.depth_fits f.hops_fit f.strength_fits, tt)

open-tells : (goal : ℕ) (d : Option ℕ) (hs : List HopBound) (s : Option ℕ) (e : Option ℕ) (ks : List HopBound) (t : Option ℕ) → FitsBound d → AllByRecursion FitsHop hs → FitsBound s
    → FitsBound e → AllByRecursion FitsHop ks → FitsBound t → open_words goal d hs s ≡ open_words goal e ks t → Open d hs s ≡ Open e ks t
unfolding open_words
open-tells goal d hs s e ks t fd fh fs fe fk ft same =
    let depths : bound_text d ≡ bound_text e = cc in
    let tails : map hop_text hs ++ codes "strength" ∷ bound_text s ∷ [] ≡ map hop_text ks ++ codes "strength" ∷ bound_text t ∷ [] = cc in
    let rest = hops-tell hs ks (bound_text s ∷ []) (bound_text t ∷ []) fh fk tails in
    let ends : bound_text s ∷ [] ≡ bound_text t ∷ [] = rest.1 in
    let strengths : bound_text s ≡ bound_text t = cc in
    let depth : d ≡ e = bound-tells d e fd fe depths in
    let hops : hs ≡ ks = rest.0 in
    let strength : s ≡ t = bound-tells s t fs ft strengths in
    cc

-- the first byte of the first line's third word
verdict_byte : List Line → ℕ
verdict_byte ls = get_or (get_or (get_or ls 0 []) 2 []) 0 0

unreachable-tells : (goal m i n j : ℕ) (p q : List LratStep) (x y : List Line) → FitsUnreachable m i p → FitsUnreachable n j q
    → block_lines goal (Unreachable m i p) ++ x ≡ block_lines goal (Unreachable n j q) ++ y → (Unreachable m i p ≡ Unreachable n j q) × (x ≡ y)
unfolding block_lines
unreachable-tells goal m i n j p q x y f g e =
    let numbers : decimal m ≡ decimal n = cc in
    let invs : decimal i ≡ decimal j = cc in
    let tails : proof_lines p ++ x ≡ proof_lines q ++ y = cc in
    let rest = proof-is_spelling.tells p q x y f.proof g.proof tails in
    let number : m ≡ n = decimal_injective m n f.number_fits g.number_fits numbers in
    let inv : i ≡ j = decimal_injective i j (omega (arith, f.inv_fits)) (omega (arith, g.inv_fits)) invs in
    let proof : p ≡ q = rest.0 in
    (cc, rest.1)

block-tells : (inputs latches goal : ℕ) (b c : GoalBlock) (x y : List Line) → goal < 2 ^ 32 → FitsBlock inputs latches b → FitsBlock inputs latches c → block_lines goal b ++ x ≡ block_lines goal c ++ y
    → (b ≡ c) × (x ≡ y)
unfolding block_lines open_words verdict_byte
block-tells inputs latches goal (Reached m v) (Reached n w) x y h f g e =
    let numbers : decimal m ≡ decimal n = cc in
    let tails : witness_lines goal v ++ x ≡ witness_lines goal w ++ y = cc in
    let rest = (witness-is_spelling inputs latches goal (omega arith)).tells v w x y f.1 g.1 tails in
    let number : m ≡ n = decimal_injective m n f.0 g.0 numbers in
    let witness : v ≡ w = rest.0 in
    (cc, rest.1)
block-tells inputs latches goal (Reached m v) (Unreachable n j q) x y h f g e = absurd (omega (arith, ap verdict_byte e))
block-tells inputs latches goal (Reached m v) (Open d hs s) x y h f g e = absurd (omega (arith, ap verdict_byte e))
block-tells inputs latches goal (Unreachable m i p) (Reached n w) x y h f g e = absurd (omega (arith, ap verdict_byte e))
block-tells inputs latches goal (Unreachable m i p) (Unreachable n j q) x y h f g e = unreachable-tells goal m i n j p q x y f g e
block-tells inputs latches goal (Unreachable m i p) (Open d hs s) x y h f g e = absurd (omega (arith, ap verdict_byte e))
block-tells inputs latches goal (Open d hs s) (Reached n w) x y h f g e = absurd (omega (arith, ap verdict_byte e))
block-tells inputs latches goal (Open d hs s) (Unreachable n j q) x y h f g e = absurd (omega (arith, ap verdict_byte e))
block-tells inputs latches goal (Open d hs s) (Open d' ks t) x y h f g e =
    let heads : open_words goal d hs s ≡ open_words goal d' ks t = cc in
    let tails : x ≡ y = cc in
    (open-tells goal d hs s d' ks t f.depth_fits f.hops_fit f.strength_fits g.depth_fits g.hops_fit g.strength_fits heads, tails)

pub block-is_spelling : (inputs latches goal : ℕ) → goal < 2 ^ 32 → IsSpelling (FitsBlock inputs latches) (block_lines goal)
block-is_spelling inputs latches goal h = record { plain = λ b f. block-plain inputs latches goal b h f; tells = λ b c x y f g e. block-tells inputs latches goal b c x y h f g e }

pub goals-is_spelling : (inputs latches : ℕ) → IsSpelling (IsCounted (FitsBlock inputs latches)) goals_lines
goals-is_spelling inputs latches =
    section-is_spelling (FitsBlock inputs latches) (codes "goals") block_lines (word-from_test (codes "goals") refl) (block-is_spelling inputs latches)
