-- What boards and passes are made of.
use Rattle.std.specs.Prelude.{◌≡◌, ◌≢◌, ℕ, ◌+◌, ◌*◌, ◌<◌, ◌≤◌, Bool, true, false, List, [], None, Some, length, map, get_or, All}
use Rattle.std.specs.Vec.{vec_capacity}
use Rattle.std.specs.declared.vec.Vec.{Vec}
use Rattle.std.specs.Global.{Global}
use Rattle.atomic_table.specs.Seated.{TableId}
use Rattle.board_core.specs.declared.entry.Entry.{Entry}
use Rattle.inv_cert.specs.Evidences.{IsEvidence, kind_of}
use Rattle.goal_board.specs.declared.view.View.{View}
use Rattle.goal_board.specs.declared.view.Terms.{Terms}
use Rattle.goal_board.specs.declared.pass.Posted.{Posted}
use Rattle.goal_board.specs.declared.space.Space.{Space}
use Rattle.goal_board.specs.Lists.{trues}
use Rattle.goal_board.specs.Rule.{Sat}
use Rattle.board_core.specs.Core.{fresh_view}
use Rattle.goal_board.specs.Passes.{BoardState, PassState, IsShownBy}

abbrev pub board_state : TableId → Terms → BoardState
board_state table terms = record { table = table; terms = terms }

pub record IsBoardTable (table : TableId) (terms : Terms) : Type 0 where
  pub words : table.words ≡ terms.goals + 1
  pub slots : table.slots ≡ 0
  pub callers : 0 < terms.callers

abbrev pub pass_state : List Bool → List Posted → TableId → View → PassState
pass_state posted posts table v = record {
  table = table;
  terms = v.terms;
  goals = length posted;
  caller = v.caller;
  known = v.known;
  evidence = map (λ (p : Posted). p.evidence) posts;
}

-- the evidence was checked, is for the board's signals, and of the entry's goal and kind, and has what the source has to show
pub record IsEvidenced (t : Terms) (p : Posted) : Type 0 where
  pub checked : IsEvidence p.evidence
  pub signals_are : p.evidence.signals ≡ t.signals.value
  pub goal : p.evidence.goal ≡ p.entry.goal
  pub kind : kind_of p.evidence.basis ≡ p.entry.kind
  pub shown : IsShownBy t p.entry.source p.evidence.basis

-- a pass between two calls
pub record IsPass (posts : Vec Posted Global) (posted : List Bool) (by front : ℕ) (me : Sat) : Type 0 where
  pub parts : me.0.parts ≡ 1
  pub slots : me.1 ≡ []
  pub caller : me.0.caller ≡ by
  pub idle : me.0.known.unmarked ≡ None
  pub front_is : me.0.known.front ≡ front
  pub entries : me.0.known.entries ≡ map (λ (p : Posted). p.entry) posts.items
  pub own : All (λ (e : Entry). e.caller ≡ by) me.0.known.entries
  -- the flags say for which goals it posted, and how many are true is how many it posted
  pub flagged : All (λ (e : Entry). get_or posted e.goal false ≡ true) me.0.known.entries
  pub real : (goal : ℕ) → get_or posted goal false ≡ true → ¬ All (λ (e : Entry). e.goal ≢ goal) me.0.known.entries
  pub counted : trues posted ≡ length posts.items
  -- so there is room for each post that it may still make
  pub left : length posts.items + me.0.left ≡ length posted
  pub room : length posted ≤ vec_capacity posts
  pub evidenced : (t : Terms) → me.0.terms ≡ Some t → All (IsEvidenced t) posts.items

-- nothing is in it yet, and there is room for so many posts, and marks of so many goals
pub record IsSpace (space : Space) (posts goals : ℕ) : Type 0 where
  pub none : (space.posts.items ≡ []) × (space.places.items ≡ []) × (space.history.items ≡ []) × (space.evidence.items ≡ []) × (space.marks.items ≡ [])
  pub posts_room : posts ≤ vec_capacity space.posts
  pub places_room : posts ≤ vec_capacity space.places
  pub history_room : posts ≤ vec_capacity space.history
  pub evidence_room : posts ≤ vec_capacity space.evidence
  pub marks_room : goals ≤ vec_capacity space.marks

-- a view with which a caller begins
pub record IsFreshView (by goals : ℕ) (v : View) : Type 0 where
  pub parts : v.parts ≡ 1
  pub caller : v.caller ≡ by
  pub known : v.known ≡ fresh_view
  pub left : v.left ≡ goals

-- the passes' list has room for as many as it was made with, and there is room for what so many callers can post
pub record ArePasses (passes : Vec PassState Global) (space : Space) (room goals : ℕ) : Type 0 where
  pub few : length passes.items ≤ room
  pub capacity : room ≤ vec_capacity passes
  pub space_is : IsSpace space (room * goals) goals
