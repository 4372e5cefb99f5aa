-- A report of a run tells the truth, whatever its jobs are.
use Rattle.std.proofs.Common.{◌≡◌, ℕ, ◌<◌, ◌^◌, Bool, true, false, List, length, refl, sym, ap, subst, ◌∙◌, arith, pow_pos, Option, Some, None}
use Rattle.std.specs.Prelude.{slice_get, option_map, count_by, IsSome}
use Rattle.std.proofs.lemmas.Bool.{false≢true}
use Rattle.std.proofs.lemmas.Option.{none-some, slice_get_within}
use Rattle.aig_model.specs.declared.parts.Kind.{Kind}
use Rattle.aig_model.specs.declared.parts.Parts.{Parts}
use Rattle.sim_walk.specs.declared.options.Options.{Options}
use Rattle.board_core.specs.declared.entry.Entry.{Entry}
use Rattle.board_core.specs.History.{first_entry}
use Rattle.report_text.specs.declared.report.Block.{Block}
use Rattle.report_text.specs.declared.report.GoalBlock.{GoalBlock}
use Rattle.report_text.specs.declared.report.GoalBlock.TheVariants as blocks
use Rattle.report_text.specs.declared.report.HopBound.{HopBound}
use Rattle.report_text.specs.declared.report.Report.{Report}
use Rattle.run_report.specs.declared.ends.Ends.{Ends}
use Rattle.run_report.specs.declared.open_goals.OpenBounds.{OpenBounds}
use Rattle.run_report.specs.declared.posts.Post.{Post}
use Rattle.run_report.specs.declared.searches.Search.TheVariants as searches
use Rattle.run_report.specs.Bounds.{Bounds, bounds_of, hop_step, steps_of, sweep_step}
use Rattle.run_report.specs.Ended.{all_refutes, all_spents, hops_of, invs_from, seeds_of}
use Rattle.run_report.specs.Ends.{inv_of, last_whole, scope_of}
use Rattle.run_report.specs.Posts.{entries_of, HasEntry}
use Rattle.run_report.specs.Refutes.{AreRefutes, AreRefutesIf, AreSteps, hop_steps_to, steps_to}
use Rattle.run_report.specs.Report.{IsBlock, Tells, is_reached, is_unreachable, is_open}
use Rattle.run_report.specs.Scope.{Scope}
use Rattle.run_report.proofs.Counts.{counted_place}
use Rattle.run_report.proofs.Refuted.{refutes_none, refutes_told}
use Rattle.run_report.proofs.Told.{IsComposed, bounds_now, entries_found, goals_tell, has_clauses, invs_tell, seeds_tell, spents_tell}

-- ---- open goals
-- an open goal has no entry
no_first : (first : Option Entry) → ◌≡◌ {A = Option Kind} (option_map (λ (e : Entry). e.kind) first) None → ¬ IsSome first
no_first None pending some = false≢true some
no_first (Some e) pending some = none-some e.kind (sym pending)

block_left : (c : Parts) (sig : List ℕ) (scope : Scope) (r : Report) (g : ℕ) (b : GoalBlock) → IsBlock c sig scope r g b → is_open b ≡ true → ¬ HasEntry r.history g
block_left c sig scope r g (blocks.Reached n w) is test = absurd (false≢true test)
block_left c sig scope r g (blocks.Unreachable n i p) is test = absurd (false≢true test)
block_left c sig scope r g (blocks.Open d hs s) is test = no_first (first_entry r.history g) is.pending

open_left : (c : Parts) (sig : List ℕ) (o : Options) (posts : List Post) (ends : Ends) (bounds : OpenBounds) (opens bs : List GoalBlock) (r : Report)
    → IsComposed c sig o posts ends bounds opens bs r → 0 < r.unsettled → (goal : ℕ) × (goal < 2 ^ length sig) × (¬ HasEntry (entries_of posts) goal)
open_left c sig o posts ends bounds opens bs r h some =
    let one = counted_place is_open bs (omega (arith, some, h.holds.unsettled)) in
    let left : ¬ HasEntry r.history one.0 = block_left c sig (scope_of ends) r one.0 one.1 (goals_tell c sig o posts ends bounds opens bs r one.0 one.1 h one.2) one.3 in (
      one.0,
      omega (arith, slice_get_within bs one.0 one.1 one.2, h.after.size, h.opened.size),
      subst (λ (es : List Entry). ¬ HasEntry es one.0) h.holds.history left,
    )

-- ---- the queries that have no model
refutes_if : (c : Parts) (sig : List ℕ) (o : Options) (posts : List Post) (ends : Ends) (bounds : OpenBounds) (opens bs : List GoalBlock) (r : Report) (proofs : Bool)
    → IsComposed c sig o posts ends bounds opens bs r → o.proofs ≡ proofs → AreRefutesIf proofs c sig (scope_of ends) r
refutes_if c sig o posts ends bounds opens bs r false h asked = h.holds.refutes ∙ (h.refutes_are ∙ refutes_none c sig o (entries_of posts) ends asked h.told)
refutes_if c sig o posts ends bounds opens bs r true h asked =
    let seeds : r.seeds ≡ seeds_of ends.batches = h.holds.seeds ∙ h.seeds_are in
    let refutes : r.refutes ≡ all_refutes ends = h.holds.refutes ∙ h.refutes_are in
    let now = bounds_now c sig o posts ends bounds opens bs r 0 (pow_pos (length sig)) h in
    let depth : (bounds_of (scope_of ends) r 0).depth ≡ last_whole o.depth searches.Sweep ends.sweep = ap (λ (b : Bounds). b.depth) now ∙ h.bounds_are.depth in
    let hops : (bounds_of (scope_of ends) r 0).hops ≡ hops_of o ends.batches = ap (λ (b : Bounds). b.hops) now ∙ h.bounds_are.hops in
    let told = refutes_told c sig o (entries_of posts) ends r.unsettled asked h.told (open_left c sig o posts ends bounds opens bs r h) in
    record {
      ordered = rw refutes told.ordered;
      each = rw (h.holds.history, seeds, refutes) told.each;
      sweep = subst (λ (x : Options). AreSteps r.unsettled x.depth (steps_to (bounds_of (scope_of ends) r 0).depth) (steps_of sweep_step r.refutes)) (sym h.holds.options)
          (subst (λ (d : Option ℕ). AreSteps r.unsettled o.depth (steps_to d) (steps_of sweep_step r.refutes)) (sym depth)
          (subst (λ (xs : List Block). AreSteps r.unsettled o.depth (steps_to (last_whole o.depth searches.Sweep ends.sweep)) (steps_of sweep_step xs)) (sym refutes) told.sweep));
      hops = λ b.
          subst (λ (x : Options). AreSteps r.unsettled x.hop (hop_steps_to (slice_get (bounds_of (scope_of ends) r 0).hops b)) (steps_of (hop_step b) r.refutes)) (sym h.holds.options)
          (subst (λ (hs : List HopBound). AreSteps r.unsettled o.hop (hop_steps_to (slice_get hs b)) (steps_of (hop_step b) r.refutes)) (sym hops)
          (subst (λ (xs : List Block). AreSteps r.unsettled o.hop (hop_steps_to (slice_get (hops_of o ends.batches) b)) (steps_of (hop_step b) xs)) (sym refutes) (told.hops b)));
    }

refutes_tell : (c : Parts) (sig : List ℕ) (o : Options) (posts : List Post) (ends : Ends) (bounds : OpenBounds) (opens bs : List GoalBlock) (r : Report)
    → IsComposed c sig o posts ends bounds opens bs r → AreRefutes c sig (scope_of ends) r
refutes_tell c sig o posts ends bounds opens bs r h =
    subst (λ (x : Options). AreRefutesIf x.proofs c sig (scope_of ends) r) (sym h.holds.options) (refutes_if c sig o posts ends bounds opens bs r o.proofs h refl)

-- ---- the whole
pub report_tells : (c : Parts) (sig : List ℕ) (o : Options) (posts : List Post) (ends : Ends) (bounds : OpenBounds) (opens bs : List GoalBlock) (r : Report)
    → IsComposed c sig o posts ends bounds opens bs r → Tells c sig o (scope_of ends) r
report_tells c sig o posts ends bounds opens bs r h =
    let seeds : r.seeds ≡ seeds_of ends.batches = h.holds.seeds ∙ h.seeds_are in
    let invs : r.invs ≡ invs_from (count_by is_unreachable bs) (inv_of ends.prover) = h.holds.invs ∙ h.invs_are in
    let spents : r.spents ≡ all_spents ends = h.holds.spents ∙ h.spents_are in
    let clauses : 0 < count_by is_unreachable bs → IsSome (inv_of ends.prover) = λ some. (
    let one = counted_place is_unreachable bs some in
    has_clauses c sig (scope_of ends) r one.0 one.1 (count_by is_unreachable bs) (inv_of ends.prover) invs (goals_tell c sig o posts ends bounds opens bs r one.0 one.1 h one.2) one.3
    ) in
    record {
      inputs = h.holds.inputs;
      latches = h.holds.latches;
      signals = h.holds.signals;
      options = h.holds.options;
      legal = rw h.holds.history h.history.legal;
      ordered = rw h.holds.history h.history.ordered;
      found = rw h.holds.history (entries_found c sig o (inv_of ends.prover) posts h.history);
      each_goal = ap length h.holds.goals ∙ (h.after.size ∙ h.opened.size);
      goals = λ g b e. goals_tell c sig o posts ends bounds opens bs r g b h (ap (λ (xs : List GoalBlock). slice_get xs g) (sym h.holds.goals) ∙ e);
      seeds = rw seeds (seeds_tell c sig o (entries_of posts) ends.batches h.told.batches);
      invs = rw (h.holds.unreachable, invs) (invs_tell c sig o (entries_of posts) ends.prover (count_by is_unreachable bs) h.told.prover clauses);
      spents = rw (h.holds.history, seeds, spents) (spents_tell c sig o (entries_of posts) ends h.told);
      refutes = refutes_tell c sig o posts ends bounds opens bs r h;
      reached = h.holds.reached ∙ ap (count_by is_reached) (sym h.holds.goals);
      unreachable = h.holds.unreachable ∙ ap (count_by is_unreachable) (sym h.holds.goals);
      unsettled = h.holds.unsettled ∙ ap (count_by is_open) (sym h.holds.goals);
    }
