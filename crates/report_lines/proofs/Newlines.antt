-- Where the first line of a text ends.
use Rattle.std.proofs.Common.{◌≡◌, ℕ, zero, suc, ◌<◌, List, [], ◌∷◌, length, take, get_or, Some, None, refl, arith}
use Rattle.std.proofs.lemmas.Bool.{ne_eqb, eq-eqb}
use Rattle.report_lines.specs.Words.{before_newline}

pub line_ends : (bs : List ℕ) (n : ℕ) → n < length bs → ((k : ℕ) → k < n → get_or bs k 0 ≡ 10 → ⊥) → get_or bs n 0 ≡ 10 → before_newline bs ≡ Some (take n bs)
line_ends [] n h f e = absurd (omega arith)
line_ends (b ∷ bs) zero h f e = rw (eq-eqb b 10 e) refl
line_ends (b ∷ bs) (suc n) h f e =
    rw (ne_eqb b 10 (f 0 (omega arith)), line_ends bs n (omega arith) (λ k l. f (suc k) (omega arith)) e) refl

pub no_line : (bs : List ℕ) → ((k : ℕ) → k < length bs → get_or bs k 0 ≡ 10 → ⊥) → before_newline bs ≡ None
no_line [] f = refl
no_line (b ∷ bs) f = rw (ne_eqb b 10 (f 0 (omega arith)), no_line bs (λ k l. f (suc k) (omega arith))) refl
