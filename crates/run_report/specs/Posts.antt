-- The history of a run, each entry with what shows it.
use Rattle.std.specs.Prelude.{◌≡◌, ℕ, ◌<◌, ◌^◌, List, map, length, All, Option, Some, None, IsSome}
use Rattle.std.specs.List.{enumerate_from}
use Rattle.aig_model.specs.Replays.{Shows}
use Rattle.aig_model.specs.declared.parts.Parts.{Parts}
use Rattle.aig_model.specs.declared.parts.Kind.{Kind}
use Rattle.aig_model.specs.declared.parts.Kind.TheVariants.{Reached, Unreachable}
use Rattle.lrat_text.specs.Accepted.{Accepted}
use Rattle.lrat_text.specs.Text.{IsWritable}
use Rattle.unroll.specs.Queries.{excludes_formula}
use Rattle.sim_walk.specs.declared.options.Options.{Options}
use Rattle.board_core.specs.declared.entry.Entry.{Entry}
use Rattle.board_core.specs.History.{IsInRange, IsLegalHistory, IsInOrder, first_entry, kind_of}
use Rattle.report_text.specs.declared.report.Inv.{Inv}
use Rattle.run_report.specs.declared.posts.Basis.{Basis}
use Rattle.run_report.specs.declared.posts.Basis.TheVariants.{Witness, Proof}
use Rattle.run_report.specs.declared.posts.Finding.{Finding}
use Rattle.run_report.specs.declared.posts.Post.{Post}
use Rattle.goal_facts.specs.Found.{Found}

abbrev pub entries_of : List Post → List Entry
entries_of posts = map (λ (p : Post). p.entry) posts

-- the goal has an entry
abbrev pub HasEntry : List Entry → ℕ → Type 0
HasEntry es goal = IsSome (first_entry es goal)

abbrev pub kind_of_basis : Basis → Kind
kind_of_basis (Witness trace) = Reached
kind_of_basis (Proof proof) = Unreachable

-- The trace shows the goal; or the proof is accepted that these clauses exclude it, where there are clauses.
abbrev pub IsBasis : Parts → List ℕ → Option Inv → ℕ → Basis → Type 0
IsBasis c sig inv goal (Witness trace) = Shows c sig trace goal
IsBasis c sig None goal (Proof proof) = ⊥
IsBasis c sig (Some inv) goal (Proof proof) = Accepted (excludes_formula c sig inv.clauses goal) proof × IsWritable proof

-- its source finds the goal, and its basis is of the entry's kind
pub record IsPost (c : Parts) (sig : List ℕ) (o : Options) (inv : Option Inv) (p : Post) : Type 0 where
  pub found : Found c sig o p.entry.source p.entry.goal
  pub kind : p.entry.kind ≡ kind_of_basis p.basis
  pub basis : IsBasis c sig inv p.entry.goal p.basis

pub record IsHistory (c : Parts) (sig : List ℕ) (o : Options) (inv : Option Inv) (posts : List Post) : Type 0 where
  pub legal : IsLegalHistory o (2 ^ length sig) (entries_of posts)
  pub ordered : IsInOrder (entries_of posts)
  pub each : All (IsPost c sig o inv) posts

-- ---- the history of one caller
-- the post of a finding, by a caller that has seen all entries before it
abbrev pub post_of : ℕ → Finding → Post
post_of number f = record {
  entry = record { number = number; caller = 0; goal = f.goal; kind = kind_of f.source; source = f.source; low = number };
  basis = f.basis;
}

-- what is known of a finding
pub record IsFinding (c : Parts) (sig : List ℕ) (o : Options) (inv : Option Inv) (f : Finding) : Type 0 where
  pub found : Found c sig o f.source f.goal
  pub kind : kind_of f.source ≡ kind_of_basis f.basis
  pub basis : IsBasis c sig inv f.goal f.basis
  pub below : f.goal < 2 ^ length sig
  pub range : IsInRange o f.source

-- one post for each, in their order
abbrev pub posts_of : List Finding → List Post
posts_of fs = map (λ p. post_of p.0 p.1) (enumerate_from 0 fs)
