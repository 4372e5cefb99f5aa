-- The history of a report tells its entries.
use Rattle.std.proofs.Common.{◌≡◌, ℕ, ◌<◌, ◌^◌, [], ◌∷◌, ◌++◌, refl, ap, arith}
use Rattle.std.specs.Prelude.{codes, decimal, get_or}
use Rattle.std.proofs.lemmas.Fmt.{decimal_injective}
use Rattle.aig_model.specs.declared.parts.Kind.{Kind}
use Rattle.aig_model.specs.declared.parts.Kind.TheVariants as kinds
use Rattle.board_core.specs.declared.entry.Source.{Source}
use Rattle.board_core.specs.declared.entry.Source.TheVariants as sources
use Rattle.board_core.specs.declared.entry.Entry.{Entry}
use Rattle.report_text.specs.Form.{IsCounted, FitsSource, FitsEntry}
use Rattle.report_text.specs.Text.{Word, kind_text, source_text, entry_words, history_lines}
use Rattle.report_text.proofs.Lines.{◌&◌, IsPlain, IsWord, IsLine, word-from_test}
use Rattle.report_text.proofs.Words.{decimal-is_word}
use Rattle.report_text.proofs.Pieces.{IsSpelling, all-append, one_line, section-is_spelling}

kind-is_word : (k : Kind) → IsWord (kind_text k)
unfolding kind_text
kind-is_word kinds.Reached = word-from_test (codes "r") refl
kind-is_word kinds.Unreachable = word-from_test (codes "u") refl

kind-tells : (k l : Kind) → kind_text k ≡ kind_text l → k ≡ l
unfolding kind_text
kind-tells kinds.Reached kinds.Reached e = refl
kind-tells kinds.Unreachable kinds.Unreachable e = refl
kind-tells kinds.Reached kinds.Unreachable e = absurd (omega (arith, ap (λ (w : Word). get_or w 0 0) e))
kind-tells kinds.Unreachable kinds.Reached e = absurd (omega (arith, ap (λ (w : Word). get_or w 0 0) e))

-- a fixed word that ends in a number
numbered-is_word : (w : Word) (n : ℕ) → IsWord w → n < 2 ^ 32 → IsWord (w ++ decimal n)
numbered-is_word w n p h = all-append IsPlain w (decimal n) p (decimal-is_word n (omega arith))

source-is_word : (s : Source) → FitsSource s → IsWord (source_text s)
unfolding source_text
source-is_word sources.Zero f = word-from_test (codes "zero") refl
source-is_word (sources.Walk b) f = numbered-is_word (codes "walk:") b (word-from_test (codes "walk:") refl) f
source-is_word sources.Sweep f = word-from_test (codes "sweep") refl
source-is_word (sources.Hop b) f = numbered-is_word (codes "hop:") b (word-from_test (codes "hop:") refl) f
source-is_word (sources.Again r) f = numbered-is_word (codes "again:") r (word-from_test (codes "again:") refl) f
source-is_word sources.Proved f = word-from_test (codes "proved") refl

-- each source has a first byte of its own
first_byte : Word → ℕ
first_byte w = get_or w 0 0

zero-tells : (t : Source) → codes "zero" ≡ source_text t → sources.Zero ≡ t
unfolding source_text first_byte
zero-tells sources.Zero e = refl
zero-tells t e = absurd (omega (arith, ap first_byte e))

walk-tells : (b : ℕ) (t : Source) → b < 2 ^ 32 → FitsSource t → codes "walk:" ++ decimal b ≡ source_text t → sources.Walk b ≡ t
unfolding source_text first_byte
walk-tells b (sources.Walk c) f g e = let same : decimal b ≡ decimal c = cc in ap (λ n. sources.Walk n) (decimal_injective b c (omega arith) (omega arith) same)
walk-tells b t f g e = absurd (omega (arith, ap first_byte e))

sweep-tells : (t : Source) → codes "sweep" ≡ source_text t → sources.Sweep ≡ t
unfolding source_text first_byte
sweep-tells sources.Sweep e = refl
sweep-tells t e = absurd (omega (arith, ap first_byte e))

hop-tells : (b : ℕ) (t : Source) → b < 2 ^ 32 → FitsSource t → codes "hop:" ++ decimal b ≡ source_text t → sources.Hop b ≡ t
unfolding source_text first_byte
hop-tells b (sources.Hop c) f g e = let same : decimal b ≡ decimal c = cc in ap (λ n. sources.Hop n) (decimal_injective b c (omega arith) (omega arith) same)
hop-tells b t f g e = absurd (omega (arith, ap first_byte e))

again-tells : (r : ℕ) (t : Source) → r < 2 ^ 32 → FitsSource t → codes "again:" ++ decimal r ≡ source_text t → sources.Again r ≡ t
unfolding source_text first_byte
again-tells r (sources.Again q) f g e = let same : decimal r ≡ decimal q = cc in ap (λ n. sources.Again n) (decimal_injective r q (omega arith) (omega arith) same)
again-tells r t f g e = absurd (omega (arith, ap first_byte e))

proved-tells : (t : Source) → codes "proved" ≡ source_text t → sources.Proved ≡ t
unfolding source_text first_byte
proved-tells sources.Proved e = refl
proved-tells t e = absurd (omega (arith, ap first_byte e))

source-tells : (s t : Source) → FitsSource s → FitsSource t → source_text s ≡ source_text t → s ≡ t
unfolding source_text
source-tells sources.Zero t f g e = zero-tells t e
source-tells (sources.Walk b) t f g e = walk-tells b t f g e
source-tells sources.Sweep t f g e = sweep-tells t e
source-tells (sources.Hop b) t f g e = hop-tells b t f g e
source-tells (sources.Again r) t f g e = again-tells r t f g e
source-tells sources.Proved t f g e = proved-tells t e

pub entry-is_line : (e : Entry) → FitsEntry e → IsLine (entry_words e)
unfolding entry_words
entry-is_line e f =
    decimal-is_word e.number f.number & decimal-is_word e.caller (omega (arith, f.caller)) & decimal-is_word e.goal (omega (arith, f.goal)) & kind-is_word e.kind & source-is_word e.source f.source
    & decimal-is_word e.low f.low & tt

entry-tells : (d e : Entry) → FitsEntry d → FitsEntry e → entry_words d ≡ entry_words e → d ≡ e
unfolding entry_words
entry-tells d e f g same =
    let numbers : decimal d.number ≡ decimal e.number = cc in
    let callers : decimal d.caller ≡ decimal e.caller = cc in
    let goals : decimal d.goal ≡ decimal e.goal = cc in
    let kinds : kind_text d.kind ≡ kind_text e.kind = cc in
    let sources : source_text d.source ≡ source_text e.source = cc in
    let lows : decimal d.low ≡ decimal e.low = cc in
    let number : d.number ≡ e.number = decimal_injective d.number e.number f.number g.number numbers in
    let caller : d.caller ≡ e.caller = decimal_injective d.caller e.caller (omega (arith, f.caller)) (omega (arith, g.caller)) callers in
    let goal : d.goal ≡ e.goal = decimal_injective d.goal e.goal (omega (arith, f.goal)) (omega (arith, g.goal)) goals in
    let kind : d.kind ≡ e.kind = kind-tells d.kind e.kind kinds in
    let source : d.source ≡ e.source = source-tells d.source e.source f.source g.source sources in
    let low : d.low ≡ e.low = decimal_injective d.low e.low f.low g.low lows in
    λ i. record { number = number i; caller = caller i; goal = goal i; kind = kind i; source = source i; low = low i }

pub entry-is_spelling : IsSpelling FitsEntry (λ e. entry_words e ∷ [])
entry-is_spelling = one_line FitsEntry entry_words entry-is_line entry-tells

pub history-is_spelling : IsSpelling (IsCounted FitsEntry) history_lines
history-is_spelling = section-is_spelling FitsEntry (codes "history") (λ _ e. entry_words e ∷ []) (word-from_test (codes "history") refl) (λ n h. entry-is_spelling)
