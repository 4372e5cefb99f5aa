-- What the steps of a reading add up to.
use Rattle.std.proofs.Common.{◌≡◌, ◌≢◌, ℕ, Bool, Option, Some, None, Result, Ok, Err, inl, inr, List, [], ◌∷◌, ◌++◌, sym, ap, ◌∙◌}
use Rattle.std.specs.Option.{ok_or}
use Rattle.std.specs.Result.{IsErrAnd}
use Rattle.text_words.specs.Text.{Rest, line_bytes, next_line}
use Rattle.aig_model.specs.Table.{Table}
use Rattle.wit_text.specs.declared.witness.Witness.{Witness}
use Rattle.wit_text.specs.declared.fault.WitKind.TheVariants.{Status, Property, Length}
use Rattle.wit_text.specs.declared.fault.WitFault.{WitFault}
use Rattle.wit_text.specs.declared.fault.WitFault.TheVariants as faults
use Rattle.wit_text.specs.Reading.{status_of, property_of, bits_of, there, end, then_read, first_line, rows_after, rows_in, behind, with_rows, from_start, from_property, reading}
use Rattle.wit_text.specs.WitnessText.{Answers}
use Rattle.wit_text.proofs.LinesLeft.{there-some, there-next, end-next}
use Rattle.wit_text.proofs.OneReading.{Rows, witness, row-read}
use Rattle.wit_text.proofs.Spelled.{bits-spell}

-- ---- one row

-- a row that is read is that of the line here
row-at : (last width at : ℕ) (bs : List ℕ) (row : List Bool) → Answers (Ok row) (first_line last Length (bits_of width) (there (record { at = at; bytes = bs })))
    → (bs ≢ []) × (bits_of width (line_bytes bs) ≡ Some row)
row-at last width at [] row (inl e) = cc
row-at last width at [] row (inr e) = cc
row-at last width at (b ∷ bs) row (inl e) = (λ h. cc, step (bits_of width (line_bytes (b ∷ bs))) e)
  where
    step : (o : Option (List Bool)) → Ok row ≡ ok_or o (faults.At at Length) → o ≡ Some row
    step None h = cc
    step (Some bits) h = cc
row-at last width at (b ∷ bs) row (inr e) = cc

pub row-here : (last width : ℕ) (r : Rest) (row : List Bool) → Answers (Ok row) (first_line last Length (bits_of width) (there r)) → (r.bytes ≢ []) × (bits_of width (line_bytes r.bytes) ≡ Some row)
row-here last width r row a = row-at last width r.at r.bytes row a

-- one row more
pub rows-step : (last inputs : ℕ) (rows more : Rows) (r s : Rest) (row : List Bool) → r.bytes ≢ [] → bits_of inputs (line_bytes r.bytes) ≡ Some row → more ≡ rows ++ row ∷ [] → s ≡ next_line r
    → rows_after last inputs more (there s) ≡ rows_after last inputs rows (there r)
rows-step last inputs rows more r s row some is grown next =
    ap (λ (x : Rest). rows_after last inputs more (there x)) next ∙ ap (λ (xs : Rows). rows_after last inputs xs (there (next_line r))) grown
    ∙ sym (ap (rows_after last inputs rows) (there-some r some) ∙ row-read last inputs rows r (there (next_line r)) row (bits-spell inputs (line_bytes r.bytes) row is))

-- ---- the parts of a text, one after another

moved : {A : Type 0} (f : ℕ → List Rest → A) (r s : Rest) → s ≡ next_line r → f (end r) (behind (there r)) ≡ f (end s) (there s)
moved f r s e = ap (λ n. f n (behind (there r))) (sym (end-next r)) ∙ ap (f (end (next_line r))) (sym (there-next r)) ∙ ap (λ (x : Rest). f (end x) (there x)) (sym e)

pub status-step : (latches inputs : ℕ) (r s : Rest) (u : Unit {0}) → Ok u ≡ first_line (end r) Status status_of (there r) → s ≡ next_line r
    → reading latches inputs (end r) (there r) ≡ from_property latches inputs (end s) (there s)
status-step latches inputs r s u e next =
    ap (λ (x : Result (Unit {0}) WitFault). then_read x (λ _. from_property latches inputs (end r) (behind (there r)))) (sym e) ∙ moved (from_property latches inputs) r s next

pub property-step : (latches inputs : ℕ) (r s : Rest) (property : ℕ) → Ok property ≡ first_line (end r) Property property_of (there r) → s ≡ next_line r
    → from_property latches inputs (end r) (there r) ≡ from_start latches inputs (end s) property (there s)
property-step latches inputs r s property e next =
    ap (λ (x : Result ℕ WitFault). then_read x (λ (p : ℕ). from_start latches inputs (end r) p (behind (there r)))) (sym e)
    ∙ moved (λ last ls. from_start latches inputs last property ls) r s next

pub start-step : (latches inputs property : ℕ) (r s : Rest) (start : List Bool) → Answers (Ok start) (first_line (end r) Length (bits_of latches) (there r)) → s ≡ next_line r
    → from_start latches inputs (end r) property (there r) ≡ with_rows property start inputs (rows_after (end s) inputs [] (there s))
start-step latches inputs property r s start (inl e) next =
    ap (λ (x : Result (List Bool) WitFault). then_read x (λ (bits : List Bool). with_rows property bits inputs (rows_after (end r) inputs [] (behind (there r))))) (sym e)
    ∙ moved (λ last ls. with_rows property start inputs (rows_after last inputs [] ls)) r s next
start-step latches inputs property r s start (inr e) next = cc

-- ---- a part that is faulty

error-of : {A : Type 0} (r : Result A WitFault) (fault : WitFault) → IsErrAnd r (λ e. e ≡ fault) → r ≡ Err fault
error-of (Ok a) fault is = absurd is
error-of (Err e) fault is = ap (λ (x : WitFault). Err x) is

fails : {A B : Type 0} (f : A → Result B WitFault) (r : Result B WitFault) (whole : Result B WitFault) (part : Result A WitFault) (fault : WitFault) → IsErrAnd r (λ e. e ≡ fault)
    → whole ≡ then_read part f → Err fault ≡ part → Answers r whole
fails f r whole part fault is reads e = inl (error-of r fault is ∙ ap (λ x. then_read x f) e ∙ sym reads)

pub part-fails : {A B : Type 0} (f : A → Result B WitFault) (r : Result B WitFault) (whole : Result B WitFault) (part : Result A WitFault) (fault : WitFault) → IsErrAnd r (λ e. e ≡ fault)
    → whole ≡ then_read part f → Answers (Err fault) part → Answers r whole
part-fails f r whole part fault is reads (inl e) = fails f r whole part fault is reads e
part-fails {A} f r whole part fault is reads (inr e) = let same : fault ≡ faults.OutOfMemory = cc in inr (error-of r fault is ∙ ap (λ (x : WitFault). Err x) same)

pub property-fails : (latches inputs : ℕ) (r : Rest) (answer whole : Result Witness WitFault) (fault : WitFault) → IsErrAnd answer (λ e. e ≡ fault)
    → whole ≡ from_property latches inputs (end r) (there r) → Err fault ≡ first_line (end r) Property property_of (there r) → Answers answer whole
property-fails latches inputs r answer whole fault is reads e =
    fails (λ (p : ℕ). from_start latches inputs (end r) p (behind (there r))) answer whole (first_line (end r) Property property_of (there r)) fault is reads e

pub start-fails : (latches inputs property : ℕ) (r : Rest) (answer whole : Result Witness WitFault) (fault : WitFault) → IsErrAnd answer (λ e. e ≡ fault)
    → whole ≡ from_start latches inputs (end r) property (there r) → Answers (Err fault) (first_line (end r) Length (bits_of latches) (there r)) → Answers answer whole
start-fails latches inputs property r answer whole fault is reads a =
    part-fails (λ (bits : List Bool). with_rows property bits inputs (rows_after (end r) inputs [] (behind (there r)))) answer whole (first_line (end r) Length (bits_of latches) (there r)) fault is reads a

pub rows-fail : (property inputs : ℕ) (start : List Bool) (r : Rest) (answer whole : Result Witness WitFault) (fault : WitFault) → IsErrAnd answer (λ e. e ≡ fault)
    → whole ≡ with_rows property start inputs (rows_after (end r) inputs [] (there r)) → Answers (Err fault) (rows_after (end r) inputs [] (there r)) → Answers answer whole
rows-fail property inputs start r answer whole fault is reads a =
    part-fails (λ (rows : Rows). Ok (witness property start inputs rows)) answer whole (rows_after (end r) inputs [] (there r)) fault is reads a

pub rows-read : (property inputs : ℕ) (start : List Bool) (r : Rest) (rows : Table) (whole : Result Witness WitFault) → whole ≡ with_rows property start inputs (rows_after (end r) inputs [] (there r))
    → Answers (rows_in (Ok rows)) (rows_after (end r) inputs [] (there r)) → rows.width ≡ inputs → Answers (Ok (record { property = property; trace = record { start = start; rows = rows } })) whole
rows-read property inputs start r rows whole reads (inl e) width =
    inl (ap (λ (n : ℕ). Ok (witness property start n rows.rows)) width ∙ ap (with_rows property start inputs) e ∙ sym reads)
rows-read property inputs start r rows whole reads (inr e) width = cc
