use Rattle.std.proofs.Common.{◌≡◌, ℕ, ◌<◌, ◌^◌, Bool, true, cond, List, Some, None, sym, ◌∙◌, ap, subst, arith}
use Rattle.std.specs.Prelude.{◌&&◌, nat_lt, bytes_eq, decimal}
use Rattle.std.proofs.lemmas.Bool.Decides.{nat_tests}
use Rattle.std.proofs.lemmas.Slice.Eq.{bytes_eq-Decides}
use Rattle.text_words.specs.Numbers.{natural_of, if_decimal, decimal_number_of}
use Rattle.text_words.proofs.Written.{natural_of-decimal}
use Rattle.text_words.proofs.numbers.decimal_number.Goals as goal

-- the decimal text of a number is read as it
written : (word text : List ℕ) (n : ℕ) → n < 2 ^ 64 → text ≡ decimal n → bytes_eq text word ≡ true → Some n ≡ decimal_number_of word
written word text n small is h =
    let same : decimal n ≡ word = sym is ∙ (bytes_eq-Decides text word).0 h in
    let read : natural_of word ≡ Some n = subst (λ (w : List ℕ). natural_of w ≡ Some n) same (natural_of-decimal n small) in
    let below : nat_lt n (2 ^ 64) ≡ true = grind (arith, nat_tests) in
    let equal : bytes_eq (decimal n) word ≡ true = (bytes_eq-Decides (decimal n) word).1 same in
    let test : (nat_lt n (2 ^ 64) && bytes_eq (decimal n) word) ≡ true = ap (λ (b : Bool). b && bytes_eq (decimal n) word) below ∙ equal in
    sym (ap (if_decimal word) read ∙ ap (λ (b : Bool). cond b (Some n) None) test)

pub returns-then-eq : goal.returns-then-eq
returns-then-eq c =
    written c.args.word.now c.format.result.now c.in_ok-n.n (omega arith) c.format.ensures.text
    (ap (λ (xs : List ℕ). bytes_eq xs c.args.word.now) (sym c.as_bytes.ensures.value) ∙ (sym c.eq.ensures ∙ c.if-eq.true))
