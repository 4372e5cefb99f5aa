-- A sink that takes bytes, piece by piece.
use Rattle.std.proofs.Common.{◌≡◌, ℕ, ◌+◌, ◌≤◌, List, [], ◌++◌, length, take, drop, Some, None, sym, ap, ◌∙◌, append_assoc, arith, subst, length-drop}
use Rattle.std.proofs.lemmas.List.{append-nil, take_all}
use Rattle.std.proofs.Math.Seq.{take-add}
use Rattle.std.specs.declared.option.Option.{Option}
use Rattle.run_io.specs.Sink.{Grew, Takes}

grew_nothing : (taken : Option (List ℕ)) → Grew taken taken []
grew_nothing None = tt
grew_nothing (Some bytes) = ap (λ (xs : List ℕ). Some xs) (sym (append-nil bytes))

pub takes_nothing : (taken : Option (List ℕ)) (bytes : List ℕ) → Takes taken taken bytes 0
takes_nothing taken bytes = record { fits = omega arith; grew = grew_nothing taken }

grew_on : (start now after : Option (List ℕ)) (xs ys : List ℕ) → Grew start now xs → Grew now after ys → Grew start after (xs ++ ys)
grew_on None now after xs ys first then_ = tt
grew_on (Some bytes) now after xs ys first then_ =
    let told : after ≡ Some ((bytes ++ xs) ++ ys) = let P = λ (t : Option (List ℕ)). Grew t after ys in subst P first then_ in
    told ∙ ap (λ (zs : List ℕ). Some zs) (append_assoc bytes xs ys)

-- a piece more of what comes after the bytes that were taken
pub takes_more : (start now after : Option (List ℕ)) (bytes piece : List ℕ) (at count : ℕ) → Takes start now bytes at → piece ≡ drop at bytes
    → Takes now after piece count → Takes start after bytes (at + count)
takes_more start now after bytes piece at count before is more =
    let P = λ (xs : List ℕ). Takes now after xs count in
    let rest : Takes now after (drop at bytes) count = subst P is more in
    let Q = λ (xs : List ℕ). Grew start after xs in
    record {
      fits = omega (arith, before.fits, rest.fits, length-drop at bytes);
      grew = subst Q (sym (take-add at count bytes)) (grew_on start now after (take at bytes) (take count (drop at bytes)) before.grew rest.grew);
    }

pub takes_all : (start now : Option (List ℕ)) (bytes : List ℕ) (at : ℕ) → length bytes ≤ at → Takes start now bytes at → Grew start now bytes
takes_all start now bytes at end takes = let P = λ (xs : List ℕ). Grew start now xs in subst P (take_all at bytes end) takes.grew
