-- The head and the end of a report are read as their lines tell them.
use Rattle.std.proofs.Common.{lit<, ◌≡◌, inl, inr, ℕ, ◌<◌, ◌^◌, Bool, true, false, cond, Option, Some, None, [], ◌∷◌, refl, sym, ap, ◌∙◌, subst, arith}
use Rattle.std.specs.Prelude.{codes, nat_eq, bytes_eq, decimal}
use Rattle.std.proofs.lemmas.Bool.{eqb-true}
use Rattle.std.proofs.lemmas.Fmt.{decimal_digit}
use Rattle.aig_model.specs.Literal.{number}
use Rattle.sim_walk.specs.declared.options.Options.{Options}
use Rattle.report_text.specs.Form.{FitsOptions}
use Rattle.report_text.specs.Text.{Word, Line, number_words, options_words}
use Rattle.report_text.proofs.Lines.{◌&◌, IsWord, IsLine, word-from_test}
use Rattle.report_text.proofs.Pieces.{number_words-is_line}
use Rattle.report_lines.specs.Words.{◌>>?◌, count_in}
use Rattle.report_lines.specs.Reading.{Place, line_read}
use Rattle.report_sections.specs.Pieces.{ReadsTo, one}
use Rattle.report_sections.specs.HeadLines.{IsVersion, title_words, FitsSize, size_words, FitsCounts, end_words}
use Rattle.report_sections.specs.Head.{if_one, title_of, Three, to_three, three_of, to_size, size_of, to_counts, end_of, flag_of, OptionFields, to_options, options_of}
use Rattle.report_sections.proofs.LineWords.{IsLineParse, line-reads}
use Rattle.report_sections.proofs.Sections.{IsSmall}
use Rattle.report_sections.proofs.Numbers.{number_field, small_field, count_parse}
use Rattle.report_sections.proofs.Parses.{IsField, bind-some, cond-some, name-or, field, and_parse, name_parse, map_parse, whole_parse, line_map}

-- ---- the version
title_plain : (n : ℕ) → IsVersion n → IsLine (title_words n)
title_plain n h = number_words-is_line (codes "ketch") (n ∷ []) (word-from_test (codes "ketch") refl) (omega (arith, h), tt)

pub title_parse : IsLineParse IsVersion title_words title_of
title_parse =
    let count = count_parse (codes "ketch") (word-from_test (codes "ketch") refl) in
    record {
      plain = title_plain;
      tells = λ ws n e.
          let first = bind-some (count_in (codes "ketch") ws) if_one n e in
          let told = count.tells ws first.0 first.1 in
          let both = cond-some (nat_eq first.0 1) first.0 n first.2 in
          (sym both.1 ∙ eqb-true first.0 1 both.0, ap title_words (sym both.1) ∙ told.1);
      back = λ n h. let P : ℕ → Type 0 = λ m. title_of (title_words m) ≡ Some m in
          subst P (sym h) (ap (λ (o : Option ℕ). o >>? if_one) (count.back 1 (lit< tt)));
      some = 1;
      some_fits = refl;
    }

pub title-reads : (p : Place) → ReadsTo IsVersion (one title_words) p (line_read title_of p)
title-reads p = line-reads IsVersion title_words title_of p title_parse

-- ---- three numbers
abbrev AreThree : Three → Type 0
AreThree t = IsSmall t.0 × IsSmall t.1 × IsSmall t.2

abbrev three_words : Word → Three → Line
three_words name t = number_words name (t.0 ∷ t.1 ∷ t.2 ∷ [])

three_plain : (name : Word) → IsWord name → (t : Three) → AreThree t → IsLine (three_words name t)
three_plain name w t f =
    let first : t.0 < 2 ^ 32 = f.0 in
    let second : t.1 < 2 ^ 32 = f.1 in
    let third : t.2 < 2 ^ 32 = f.2 in
    number_words-is_line name (t.0 ∷ t.1 ∷ t.2 ∷ []) w ((omega arith) & (omega arith) & (omega arith) & tt)

three_parse : (name : Word) → IsWord name → IsLineParse AreThree (three_words name) (three_of name)
three_parse name w =
    let fields = name_parse name (and_parse (field small_field) (and_parse (field small_field) (field small_field))) in
    let all = map_parse AreThree (three_words name) to_three (λ t. (t.0, (t.1, t.2))) fields (record {
      there = λ t f. ((f.0, f.1.0, f.1.1), refl);
      back = λ t f. ((f.0, (f.1, f.2)), refl, refl);
    }) in
    whole_parse AreThree (three_words name) _ (0, 0, 0) all (three_plain name w) (lit< tt, lit< tt, lit< tt)

-- ---- the size
pub size_parse : IsLineParse FitsSize size_words size_of
size_parse = line_map FitsSize size_words to_size (λ s. (s.inputs, s.latches, s.signals)) (three_parse (codes "size") (word-from_test (codes "size") refl)) (record {
  there = λ t f. (record { inputs = f.0; latches = f.1; signals = f.2 }, refl);
  back = λ s f. ((f.inputs, f.latches, f.signals), refl, refl);
})

pub size-reads : (p : Place) → ReadsTo FitsSize (one size_words) p (line_read size_of p)
size-reads p = line-reads FitsSize size_words size_of p size_parse

-- ---- the end
pub end_parse : IsLineParse FitsCounts end_words end_of
end_parse = line_map FitsCounts end_words to_counts (λ c. (c.reached, c.unreachable, c.unsettled)) (three_parse (codes "end") (word-from_test (codes "end") refl)) (record {
  there = λ t f. (record { reached = f.0; unreachable = f.1; unsettled = f.2 }, refl);
  back = λ c f. ((f.reached, f.unreachable, f.unsettled), refl, refl);
})

pub end-reads : (p : Place) → ReadsTo FitsCounts (one end_words) p (line_read end_of p)
end-reads p = line-reads FitsCounts end_words end_of p end_parse

-- ---- options
abbrev AnyFlag : Bool → Type 0
AnyFlag b = Unit {0}

abbrev flag_text : Bool → Word
flag_text b = decimal (number b)

flag-tells : (w : Word) (b : Bool) → flag_of w ≡ Some b → AnyFlag b × (flag_text b ≡ w)
flag-tells w b e =
    let G : Type 0 = AnyFlag b × (flag_text b ≡ w) in
    elim (name-or AnyFlag flag_text w (codes "0") false b (cond (bytes_eq w (codes "1")) (Some true) None) tt (decimal_digit 0 (omega arith)) e) as (λ _. G) [
      | inl g ↦ g
      | inr h ↦ elim (name-or AnyFlag flag_text w (codes "1") true b None tt (decimal_digit 1 (omega arith)) h) as (λ _. G) [ inl g ↦ g | inr k ↦ cc ]
    ]

flag-back : (b : Bool) → AnyFlag b → flag_of (flag_text b) ≡ Some b
flag-back true f = ap flag_of (decimal_digit 1 (omega arith))
flag-back false f = ap flag_of (decimal_digit 0 (omega arith))

flag_field : IsField AnyFlag flag_text flag_of
flag_field = record { tells = flag-tells; back = flag-back }

abbrev option_fields : Options → OptionFields
option_fields o = (o.depth, (o.batches, (o.length, (o.stall, (o.hop, (o.seed, (o.lemmas, (o.strength, (o.rounds, o.proofs)))))))))

number-fits : (b : Bool) → number b < 2 ^ 64
number-fits true = omega arith
number-fits false = omega arith

options_plain : (o : Options) → FitsOptions o → IsLine (options_words o)
unfolding options_words
options_plain o f =
    number_words-is_line (codes "options") (o.depth ∷ o.batches ∷ o.length ∷ o.stall ∷ o.hop ∷ o.seed ∷ o.lemmas ∷ o.strength ∷ o.rounds ∷ number o.proofs ∷ []) (word-from_test (codes "options") refl)
    ((omega arith) & (omega arith) & (omega arith) & (omega arith) & (omega arith) & f.seed & f.lemmas & (omega arith) & (omega arith) & number-fits o.proofs & tt)

abbrev no_options : Options
no_options = record { depth = 0; batches = 0; length = 0; stall = 0; hop = 0; seed = 0; lemmas = 0; strength = 0; rounds = 0; proofs = false }

pub options_parse : IsLineParse FitsOptions options_words options_of
unfolding options_words
options_parse =
    let fields = name_parse (codes "options") (and_parse (field small_field) (and_parse (field small_field) (and_parse (field small_field) (and_parse (field small_field) (and_parse (field small_field)
    (and_parse (field number_field) (and_parse (field number_field) (and_parse (field small_field) (and_parse (field small_field) (field flag_field)))))))))) in
    let all = map_parse FitsOptions options_words to_options option_fields fields (record {
      there = λ t f. (
        record {
          depth = f.0;
          batches = f.1.0;
          length = f.1.1.0;
          stall = f.1.1.1.0;
          hop = f.1.1.1.1.0;
          seed = f.1.1.1.1.1.0;
          lemmas = f.1.1.1.1.1.1.0;
          strength = f.1.1.1.1.1.1.1.0;
          rounds = f.1.1.1.1.1.1.1.1.0;
        },
        refl,
      );
      back = λ o f. ((f.depth, (f.batches, (f.length, (f.stall, (f.hop, (f.seed, (f.lemmas, (f.strength, (f.rounds, tt))))))))), refl, refl);
    }) in
    whole_parse FitsOptions options_words _ no_options all options_plain (record {
      depth = lit< tt;
      batches = lit< tt;
      length = lit< tt;
      stall = lit< tt;
      hop = lit< tt;
      seed = lit< tt;
      lemmas = lit< tt;
      strength = lit< tt;
      rounds = lit< tt;
    })

pub options-reads : (p : Place) → ReadsTo FitsOptions (one options_words) p (line_read options_of p)
options-reads p = line-reads FitsOptions options_words options_of p options_parse
