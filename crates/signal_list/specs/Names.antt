-- The names that a list asks for, and who has them.
use Rattle.std.specs.Prelude.{◌≡◌, ℕ, Option, Some, None, IsSome, Result, Ok, Err, List, [], ◌∷◌, filter, Contains}
use Rattle.std.specs.Borrow.{Bor}
use Rattle.std.specs.Str.{bytes_eq}
use Rattle.aig_model.specs.declared.parts.Place.{Place}
use Rattle.aig_model.specs.declared.parts.Named.{Named}
use Rattle.indexmap.specs.IndexMap.{IndexMap, get_by}
use Rattle.signal_list.specs.SignalText.{trimmed}
use Rattle.signal_list.specs.declared.fault.SigKind.{SigKind}
use Rattle.signal_list.specs.declared.fault.SigKind.TheVariants.{NoName, TwoNames}
use Rattle.signal_list.specs.declared.names.Owner.{Owner}
use Rattle.signal_list.specs.declared.names.Owner.TheVariants.{One, Several}

-- one symbol more has the name
abbrev pub with_one_more : Option Owner → Place → Owner
with_one_more None p = One p
with_one_more (Some o) p = Several

-- the symbols with the name
abbrev pub symbols_of : List Named → List ℕ → List Named
symbols_of names bytes = filter (λ (n : Named). bytes_eq bytes n.name) names

abbrev pub owner_among : List Named → Option Owner
owner_among [] = None
owner_among (n ∷ []) = Some (One n.place)
owner_among (n ∷ m ∷ more) = Some Several

-- who has the name
abbrev pub owner_of : List Named → List ℕ → Option Owner
owner_of names bytes = owner_among (symbols_of names bytes)

-- ---- the table of the names that are asked for

abbrev pub Table : Type 0 → Type 0
Table S = IndexMap (Bor (List ℕ)) (Option Owner) S

-- what the table says of the bytes, if it has them
abbrev pub told : {S : Type 0} → Table S → Bor (List ℕ) → Option (Option Owner)
told table bytes = get_by (λ (k : Bor (List ℕ)). bytes_eq bytes.now k.now) table

-- the table tells who has each name that it has
abbrev pub TellsOwners : {S : Type 0} → List Named → Table S → Type 0
TellsOwners names table = (bytes : Bor (List ℕ)) (owner : Option Owner) → told table bytes ≡ Some owner → owner ≡ owner_of names bytes.now

-- the table has the name that the line asks for, if it asks for one (64 is @)
abbrev pub IsAsked : {S : Type 0} → List ℕ → Table S → Type 0
IsAsked line table = (bytes : Bor (List ℕ)) → line ≡ 64 ∷ bytes.now → IsSome (told table bytes)

-- it has the names that all the lines ask for
abbrev pub AreAsked : {S : Type 0} → List (List ℕ) → Table S → Type 0
AreAsked ls table = (line : List ℕ) → Contains ls line → IsAsked (trimmed line) table

-- no name is lost
abbrev pub KeepsNames : {S : Type 0} → Table S → Table S → Type 0
KeepsNames old new = (bytes : Bor (List ℕ)) → IsSome (told old bytes) → IsSome (told new bytes)

-- the one place that has a name, or what is wrong with the name
abbrev pub the_owner : Option Owner → Result Place SigKind
the_owner None = Err NoName
the_owner (Some Several) = Err TwoNames
the_owner (Some (One p)) = Ok p
