-- The history: what settled which goal, in the order of the posts.
use Rattle.std.specs.Prelude.{◌≡◌, ◌≢◌, ◌⊎◌, ℕ, ◌*◌, ◌<◌, ◌≤◌, List, find, slice_get, AllPairs, Option, Some, option_map, nat_eq}
use Rattle.aig_model.specs.declared.parts.Kind.{Kind}
use Rattle.aig_model.specs.declared.parts.Kind.TheVariants.{Reached, Unreachable}
use Rattle.sim_walk.specs.declared.options.Options.{Options}
use Rattle.board_core.specs.declared.entry.Source.{Source}
use Rattle.board_core.specs.declared.entry.Source.TheVariants.{Zero, Walk, Sweep, Hop, Again, Proved}
use Rattle.board_core.specs.declared.entry.Entry.{Entry}

-- a source whose batch or round the options have
abbrev pub IsInRange : Options → Source → Type 0
IsInRange o Zero = Unit {0}
IsInRange o (Walk b) = b < o.batches
IsInRange o Sweep = Unit {0}
IsInRange o (Hop b) = b < o.batches
IsInRange o (Again r) = r < o.batches * o.rounds
IsInRange o Proved = Unit {0}

-- the kind of goal that a source settles
abbrev pub kind_of : Source → Kind
kind_of Zero = Reached
kind_of (Walk b) = Reached
kind_of Sweep = Reached
kind_of (Hop b) = Reached
kind_of (Again r) = Reached
kind_of Proved = Unreachable

-- the entry at place k, by itself
pub record IsLegalEntry (o : Options) (goals k : ℕ) (e : Entry) : Type 0 where
  pub number : e.number ≡ k
  pub caller : e.caller < 8
  pub goal : e.goal < goals
  pub low : e.low ≤ e.number
  pub source : IsInRange o e.source
  pub kind : e.kind ≡ kind_of e.source

-- no caller posts twice for a goal, and the entries of a goal agree
pub record IsLegalHistory (o : Options) (goals : ℕ) (es : List Entry) : Type 0 where
  pub entries : (k : ℕ) (e : Entry) → slice_get es k ≡ Some e → IsLegalEntry o goals k e
  pub once : AllPairs (λ (e f : Entry). (e.caller ≢ f.caller) ⊎ (e.goal ≢ f.goal)) es
  pub kinds : AllPairs (λ (e f : Entry). e.goal ≡ f.goal → e.kind ≡ f.kind) es

-- of two entries of one caller, the later one's low is above the earlier one's number
abbrev pub IsInOrder : List Entry → Type 0
IsInOrder es = AllPairs (λ (e f : Entry). e.caller ≡ f.caller → e.number < f.low) es

abbrev pub first_entry : List Entry → ℕ → Option Entry
first_entry es goal = find (λ (e : Entry). nat_eq e.goal goal) es

-- the kind of a goal's first entry; None while it is pending
abbrev pub verdict_of : List Entry → ℕ → Option Kind
verdict_of es goal = option_map (λ (e : Entry). e.kind) (first_entry es goal)
