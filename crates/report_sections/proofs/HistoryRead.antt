-- The history is read as its lines tell it.
use Rattle.std.proofs.Common.{lit<, ◌≡◌, ◌⊎◌, inl, inr, ℕ, ◌<◌, ◌^◌, Bool, true, false, cond, Option, Some, None, [], ◌∷◌, ◌++◌, refl, sym, ap, ◌∙◌, subst}
use Rattle.std.specs.Prelude.{codes, bytes_eq, nat_eq, decimal}
use Rattle.std.specs.Option.{option_map}
use Rattle.std.proofs.lemmas.Bool.{eqb-true}
use Rattle.aig_model.specs.declared.parts.Kind.{Kind}
use Rattle.aig_model.specs.declared.parts.Kind.TheVariants as kinds
use Rattle.board_core.specs.declared.entry.Source.{Source}
use Rattle.board_core.specs.declared.entry.Source.TheVariants as sources
use Rattle.board_core.specs.declared.entry.Entry.{Entry}
use Rattle.report_text.specs.Form.{IsCounted, FitsSource, FitsEntry}
use Rattle.report_text.specs.Text.{Word, kind_text, source_text, entry_words, history_lines}
use Rattle.report_text.proofs.Lines.{word-from_test}
use Rattle.report_text.proofs.HistoryLines.{entry-is_line, entry-is_spelling}
use Rattle.report_lines.specs.Words.{small_of}
use Rattle.report_lines.specs.Reading.{Place, line_read}
use Rattle.report_sections.specs.Pieces.{ReadsTo}
use Rattle.report_sections.specs.History.{behind_front, kind_of, from_front, numbered_of, source_of, Fields, to_entry, entry_of, history_read}
use Rattle.report_sections.proofs.Sections.{AreItems}
use Rattle.report_sections.proofs.LineWords.{IsLineParse, line-reads}
use Rattle.report_sections.proofs.Numbers.{number_field, small_field, count_parse}
use Rattle.report_sections.proofs.Parses.{IsField, some-some, name-or, field, and_parse, map_parse, whole_parse}
use Rattle.report_sections.proofs.Combine.{section-reads}

-- ---- kinds
abbrev AnyKind : Kind → Type 0
AnyKind k = Unit {0}

kind-tells : (w : Word) (k : Kind) → kind_of w ≡ Some k → AnyKind k × (kind_text k ≡ w)
unfolding kind_text
kind-tells w k e =
    let G : Type 0 = AnyKind k × (kind_text k ≡ w) in
    elim (name-or AnyKind kind_text w (codes "r") kinds.Reached k (cond (bytes_eq w (codes "u")) (Some kinds.Unreachable) None) tt refl e) as (λ _. G) [
      | inl g ↦ g
      | inr h ↦ elim (name-or AnyKind kind_text w (codes "u") kinds.Unreachable k None tt refl h) as (λ _. G) [ inl g ↦ g | inr h' ↦ cc ]
    ]

kind-back : (k : Kind) → AnyKind k → kind_of (kind_text k) ≡ Some k
unfolding kind_text
kind-back kinds.Reached f = refl
kind-back kinds.Unreachable f = refl

kind_field : IsField AnyKind kind_text kind_of
kind_field = record { tells = kind-tells; back = kind-back }

-- ---- sources
front-step : (b f : ℕ) (fs bs rest : Word) (t : Bool) → (t ≡ true → b ≡ f) → ((r : Word) → behind_front fs bs ≡ Some r → fs ++ r ≡ bs) → cond t (behind_front fs bs) None ≡ Some rest → f ∷ (fs ++ rest) ≡ b ∷ bs
front-step b f fs bs rest true h more e = let first : b ≡ f = h refl in let others : fs ++ rest ≡ bs = more rest e in cc
front-step b f fs bs rest false h more e = cc

pub front-tells : (front w rest : Word) → behind_front front w ≡ Some rest → front ++ rest ≡ w
front-tells [] w rest e = sym (some-some w rest e)
front-tells (f ∷ fs) [] rest e = cc
front-tells (f ∷ fs) (b ∷ bs) rest e = front-step b f fs bs rest (nat_eq b f) (eqb-true b f) (front-tells fs bs) e

number-tells : (make : ℕ → Source) (rest : Word) (o : Option ℕ) (s : Source) → small_of rest ≡ o → option_map make o ≡ Some s → (n : ℕ) × (n < 2 ^ 32) × (decimal n ≡ rest) × (make n ≡ s)
number-tells make rest None s is e = cc
number-tells make rest (Some n) s is e = let told = small_field.tells rest n is in (n, told.0, told.1, some-some (make n) s e)

front-or : (make : ℕ → Source) (front w : Word) (o : Option Word) (other : Option Source) (s : Source) → ((n : ℕ) → n < 2 ^ 32 → FitsSource (make n)) → ((n : ℕ) → source_text (make n) ≡ front ++ decimal n)
    → behind_front front w ≡ o → from_front make o other ≡ Some s → (FitsSource s × (source_text s ≡ w)) ⊎ (other ≡ Some s)
front-or make front w None other s fits text is e = inr e
front-or make front w (Some rest) other s fits text is e =
    let told = number-tells make rest (small_of rest) s refl e in
    let spelled : source_text (make told.0) ≡ w = text told.0 ∙ (ap (λ (r : Word). front ++ r) told.2 ∙ front-tells front w rest is) in
    inl (subst (λ (t : Source). FitsSource t × (source_text t ≡ w)) told.3 (fits told.0 told.1, spelled))

numbered-tells : (w : Word) (s : Source) → numbered_of w ≡ Some s → FitsSource s × (source_text s ≡ w)
unfolding source_text
numbered-tells w s e =
    let G : Type 0 = FitsSource s × (source_text s ≡ w) in
    let again = from_front (λ r. sources.Again r) (behind_front (codes "again:") w) None in
    let hop = from_front (λ b. sources.Hop b) (behind_front (codes "hop:") w) again in
    elim (front-or (λ b. sources.Walk b) (codes "walk:") w (behind_front (codes "walk:") w) hop s (λ n h. h) (λ n. refl) refl e) as (λ _. G) [
      | inl g ↦ g
      | inr h ↦ elim (front-or (λ b. sources.Hop b) (codes "hop:") w (behind_front (codes "hop:") w) again s (λ n h. h) (λ n. refl) refl h) as (λ _. G) [
        | inl g ↦ g
        | inr h' ↦ elim (front-or (λ r. sources.Again r) (codes "again:") w (behind_front (codes "again:") w) None s (λ n h. h) (λ n. refl) refl h') as (λ _. G) [ inl g ↦ g | inr k ↦ cc ]
      ]
    ]

source-tells : (w : Word) (s : Source) → source_of w ≡ Some s → FitsSource s × (source_text s ≡ w)
unfolding source_text
source-tells w s e =
    let G : Type 0 = FitsSource s × (source_text s ≡ w) in
    let proved = cond (bytes_eq w (codes "proved")) (Some sources.Proved) (numbered_of w) in
    let sweep = cond (bytes_eq w (codes "sweep")) (Some sources.Sweep) proved in
    elim (name-or FitsSource source_text w (codes "zero") sources.Zero s sweep tt refl e) as (λ _. G) [
      | inl g ↦ g
      | inr h ↦ elim (name-or FitsSource source_text w (codes "sweep") sources.Sweep s proved tt refl h) as (λ _. G) [
        | inl g ↦ g
        | inr h' ↦ elim (name-or FitsSource source_text w (codes "proved") sources.Proved s (numbered_of w) tt refl h') as (λ _. G) [ inl g ↦ g | inr k ↦ numbered-tells w s k ]
      ]
    ]

source-back : (s : Source) → FitsSource s → source_of (source_text s) ≡ Some s
unfolding source_text
source-back sources.Zero f = refl
source-back (sources.Walk b) f = ap (option_map (λ n. sources.Walk n)) (small_field.back b f)
source-back sources.Sweep f = refl
source-back (sources.Hop b) f = ap (option_map (λ n. sources.Hop n)) (small_field.back b f)
source-back (sources.Again r) f = ap (option_map (λ n. sources.Again n)) (small_field.back r f)
source-back sources.Proved f = refl

source_field : IsField FitsSource source_text source_of
source_field = record { tells = source-tells; back = source-back }

-- ---- entries
abbrev fields_of : Entry → Fields
fields_of e = (e.number, (e.caller, (e.goal, (e.kind, (e.source, e.low)))))

abbrev first_entry : Entry
first_entry = record { number = 0; caller = 0; goal = 0; kind = kinds.Reached; source = sources.Zero; low = 0 }

first-fits : FitsEntry first_entry
first-fits = record { number = lit< tt; caller = lit< tt; goal = lit< tt; source = tt; low = lit< tt }

entry_parse : IsLineParse FitsEntry entry_words entry_of
unfolding entry_words
entry_parse =
    let fields = and_parse (field number_field) (and_parse (field small_field) (and_parse (field small_field) (and_parse (field kind_field) (and_parse (field source_field) (field number_field))))) in
    let entries = map_parse FitsEntry entry_words to_entry fields_of fields (record {
      there = λ t f. (record { number = f.0; caller = f.1.0; goal = f.1.1.0; source = f.1.1.1.1.0; low = f.1.1.1.1.1 }, refl);
      back = λ e f. ((f.number, (f.caller, (f.goal, (tt, (f.source, f.low))))), refl, refl);
    }) in
    whole_parse FitsEntry entry_words _ first_entry entries entry-is_line first-fits

entries : AreItems FitsEntry (λ _ e. entry_words e ∷ [])
entries = record { each = λ n h. entry-is_spelling; some = first_entry; some_fits = first-fits }

pub history-reads : (p : Place) → ReadsTo (IsCounted FitsEntry) history_lines p (history_read p)
history-reads p =
    section-reads FitsEntry (codes "history") (λ _ e. entry_words e ∷ []) (λ _. line_read entry_of) p entries (word-from_test (codes "history") refl)
    (count_parse (codes "history") (word-from_test (codes "history") refl)) (λ i s h. line-reads FitsEntry entry_words entry_of s entry_parse)
