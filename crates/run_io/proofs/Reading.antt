-- What is left of a file, read piece by piece.
use Rattle.std.proofs.Common.{◌≡◌, ℕ, List, ◌++◌, length, take, drop, Some, None, IfSome, sym, ap, ◌∙◌, append_assoc, arith, subst, length-append, length-take}
use Rattle.std.proofs.lemmas.List.{take-append-drop}
use Rattle.std.proofs.Math.Seq.{drop-append_seam}
use Rattle.std.specs.declared.option.Option.{Option}
use Rattle.run_io.specs.Desk.{DeskState, IsPast, IsFront, Gives}

-- what is left after these bytes of a text
pub record Rest (text bytes : List ℕ) (left : Option (List ℕ)) : Type 0 where
  pub rest : List ℕ
  pub told : left ≡ Some rest
  pub joined : text ≡ bytes ++ rest

-- these bytes were given, and with what is left now they make up what was left before, where that was told
pub record Reading (before now : Option (List ℕ)) (given : ℕ) (bytes : List ℕ) : Type 0 where
  pub counted : given ≡ length bytes
  pub part : IfSome before (λ whole. Rest whole bytes now)

front_of : (left : Option (List ℕ)) (bytes piece : List ℕ) (rest : Option (List ℕ)) (count : ℕ) → left ≡ Some bytes
    → IfSome left (λ xs. IsFront xs rest piece count) → IsFront bytes rest piece count
front_of left bytes piece rest count is told = let P = λ (l : Option (List ℕ)). IfSome l (λ xs. IsFront xs rest piece count) in subst P is told

rest_more : (before left rest : Option (List ℕ)) (bytes piece : List ℕ) (count : ℕ) → IfSome before (λ whole. Rest whole bytes left)
    → IfSome left (λ xs. IsFront xs rest piece count) → IfSome before (λ whole. Rest whole (bytes ++ take count piece) rest)
rest_more None left rest bytes piece count part told = tt
rest_more (Some whole) left rest bytes piece count part told =
    let front = front_of left part.rest piece rest count part.told told in
    record {
      rest = drop count part.rest;
      told = front.left;
      joined = part.joined ∙ sym (append_assoc bytes (take count piece) (drop count part.rest)
          ∙ ap (λ (xs : List ℕ). bytes ++ xs) (ap (λ (xs : List ℕ). xs ++ drop count part.rest) front.front ∙ take-append-drop count part.rest));
    }

rest_past : (before now : Option (List ℕ)) (given : ℕ) (bytes : List ℕ) → given ≡ length bytes → IfSome before (λ whole. Rest whole bytes now) → IsPast before now given
rest_past None now given bytes counted part = tt
rest_past (Some whole) now given bytes counted part = (
  omega (arith, counted, ap length part.joined, length-append bytes part.rest),
  part.told ∙ ap (λ (xs : List ℕ). Some xs) (sym (ap (drop given) part.joined ∙ (ap (λ (n : ℕ). drop n (bytes ++ part.rest)) counted ∙ drop-append_seam bytes part.rest))),
)

-- what was given and what is left, one piece later
pub past_more : (old new : DeskState) (before : Option (List ℕ)) (bytes piece : List ℕ) (count : ℕ)
    → Reading before old.left old.given bytes → Gives old new piece count → IsPast before new.left new.given
past_more old new before bytes piece count reading gives =
    rest_past before new.left new.given (bytes ++ take count piece)
    (omega (arith, reading.counted, gives.counted, gives.fits, length-append bytes (take count piece), length-take count piece))
    (rest_more before old.left new.left bytes piece count reading.part gives.told)
