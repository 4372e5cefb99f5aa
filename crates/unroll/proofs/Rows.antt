-- The rows that are read from the values of all steps.
use Rattle.std.proofs.Common.{◌≡◌, ℕ, ◌+◌, ◌*◌, ◌<◌, ◌≤◌, Bool, List, [], ◌∷◌, ◌++◌, map, take, drop, get_or, refl, sym, ap, ◌∙◌, arith, zero-add, All}
use Rattle.std.specs.List.{range_with_len}
use Rattle.std.proofs.lemmas.Nat.{mul-le}
use Rattle.std.proofs.lemmas.List.{map-append}
use Rattle.std.proofs.lemmas.List.FromFn.{map-range_with_len_more}
use Rattle.std.proofs.lemmas.List.Elements.{All-map, All-weaker}
use Rattle.aig_model.specs.Literal.{var}
use Rattle.aig_model.specs.Meaning.{Assignment}
use Rattle.aig_model.specs.Table.{row_of, rows_of}
use Rattle.aig_model.specs.WellFormed.{IsCircuit, latch_lits}
use Rattle.aig_model.specs.declared.parts.Latch.{Latch}
use Rattle.aig_model.specs.declared.parts.Parts.{Parts}
use Rattle.aig_model.proofs.Tables.{get_or-rows_of}
use Rattle.unroll.proofs.Room.{IsOwn, OwnsLatch, latches_own, inputs_own}

pub row_room : (width len row total : ℕ) → row < len → total ≡ len * width → row * width + width ≤ total
row_room width len row total h e = let below : (row + 1) * width ≤ len * width = mul-le (row + 1) width len width (omega arith) (omega arith) in omega arith

pub first_room : (width len total : ℕ) → 0 < len → total ≡ len * width → 0 + width ≤ total
first_room width len total h e = let room = row_room width len 0 total h e in omega arith

pub rows_more : (f : Assignment → List Bool) (width n : ℕ) (bits : List Bool) (old new : List (List Bool)) (row : List Bool)
    → old ≡ map f (rows_of width n bits) → new ≡ old ++ row ∷ [] → row ≡ f (take width (drop (n * width) bits)) → new ≡ map f (rows_of width (n + 1) bits)
unfolding rows_of
rows_more f width n bits old new row held pushed read =
    pushed
    ∙ (ap (λ (r : List Bool). old ++ r ∷ []) read
    ∙ (ap (λ (rs : List (List Bool)). rs ++ f (row_of width bits n) ∷ []) held
    ∙ (sym (map-append f (map (row_of width bits) (range_with_len 0 n)) (row_of width bits n ∷ []))
    ∙ ap (map f) (sym (map-range_with_len_more (row_of width bits) 0 n n (zero-add n))))))

pub no_rows : (f : Assignment → List Bool) (width : ℕ) (bits : List Bool) → map f (rows_of width 0 bits) ≡ []
unfolding rows_of
no_rows f width bits = refl

pub first_row : (width len : ℕ) (bits : List Bool) → 0 < len → take width (drop 0 bits) ≡ get_or (rows_of width len bits) 0 []
first_row width len bits h =
    let e : 0 ≡ 0 * width = omega arith in
    ap (λ n. take width (drop n bits)) e ∙ sym (get_or-rows_of width len bits 0 [] h)

pub latches_inside : (c : Parts) → IsCircuit c → All (λ lit. var lit < c.top + 1) (latch_lits c.latches)
latches_inside c ok =
    All-map (λ lit. var lit < c.top + 1) (λ (l : Latch). l.lit) c.latches
    (All-weaker (OwnsLatch c) (λ (l : Latch). var l.lit < c.top + 1) (λ (l : Latch) own. omega (arith, own.lit)) c.latches (latches_own c ok))

pub inputs_inside : (c : Parts) → IsCircuit c → All (λ lit. var lit < c.top + 1) c.inputs
inputs_inside c ok = All-weaker (IsOwn c) (λ lit. var lit < c.top + 1) (λ lit own. omega (arith, own)) c.inputs (inputs_own c ok)
