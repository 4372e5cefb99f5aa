-- A report of a run has the form of its text.
use Rattle.std.proofs.Common.{◌≡◌, ℕ, ◌<◌, ◌≤◌, ◌^◌, List, length, get_or, ap, subst, refl, ◌∙◌, arith, All, Option, Some, None}
use Rattle.std.specs.Prelude.{slice_get, option_map, count_by}
use Rattle.std.proofs.lemmas.List.Elements.{recursion_from_All}
use Rattle.std.proofs.lemmas.List.Sums.{count_by-le-length}
use Rattle.std.proofs.lemmas.Option.{slice_get-map, slice_get_within, slice_get-get_or, get_or_from_slice_get}
use Rattle.aig_model.specs.declared.parts.Parts.{Parts}
use Rattle.board_core.specs.History.{IsLegalHistory}
use Rattle.report_text.specs.Form.{FitsBlock, FitsEntry, FitsOptions, HasForm}
use Rattle.report_text.specs.declared.report.GoalBlock.{GoalBlock}
use Rattle.report_text.specs.declared.report.Report.{Report}
use Rattle.sim_walk.specs.declared.options.Options.{Options}
use Rattle.run_report.specs.declared.ends.Ends.{Ends}
use Rattle.run_report.specs.declared.open_goals.OpenBounds.{OpenBounds}
use Rattle.run_report.specs.declared.posts.Post.{Post}
use Rattle.run_report.specs.Blocks.{first_post, open_block, settled_by}
use Rattle.run_report.specs.Ended.{all_refutes, all_spents, invs_from, seeds_of}
use Rattle.run_report.specs.Ends.{inv_of}
use Rattle.run_report.specs.Lines.{AreShort, HasBasisLiterals, HasShortBasis, HaveEndLiterals}
use Rattle.run_report.specs.Posts.{IsPost, entries_of}
use Rattle.run_report.specs.Ranges.{AreInRange}
use Rattle.run_report.specs.Report.{is_open, is_reached, is_unreachable}
use Rattle.run_report.proofs.Fitting.{invs_fit, open_fits, queries_fit, seeds_fit, settled_fits, spents_literals}
use Rattle.run_report.proofs.Forms.{entry_fits, few_entries, few_goals}
use Rattle.run_report.proofs.History.{first_placed}
use Rattle.run_report.proofs.RefuteForms.{refutes_fit}
use Rattle.run_report.proofs.Told.{IsComposed, block_is, post_at_place, seeds_tell, spents_tell}
use Rattle.run_report.proofs.Whole.{report_tells}

-- what the form needs beside what the report is made of
pub record IsFit (o : Options) (posts : List Post) (ends : Ends) : Type 0 where
  pub options : FitsOptions o
  pub ranges : AreInRange o
  pub short : AreShort posts ends.prover
  pub basis_literals : All (λ (p : Post). HasBasisLiterals p.basis) posts
  pub end_literals : HaveEndLiterals ends

-- what holds of all posts holds of one
of_post : (P : Post → Type 0) (posts : List Post) (k : ℕ) (p : Post) → All P posts → slice_get posts k ≡ Some p → P p
of_post P posts k p all e = subst P (get_or_from_slice_get posts k p p e) (all k p (slice_get_within posts k p e))

block_form : (c : Parts) (sig : List ℕ) (o : Options) (posts : List Post) (ends : Ends) (bounds : OpenBounds) (opens bs : List GoalBlock) (r : Report) (g : ℕ) (first : Option Post) → IsFit o posts ends
    → IsComposed c sig o posts ends bounds opens bs r → first_post posts g ≡ first → FitsBlock (length c.inputs) (length c.latches) (settled_by first (open_block bounds g))
block_form c sig o posts ends bounds opens bs r g None fit h e = open_fits c sig o (entries_of posts) ends bounds (2 ^ length sig) g fit.options h.told h.bounds_are
block_form c sig o posts ends bounds opens bs r g (Some p) fit h e =
    let placed = first_placed posts g p e in
    let k = placed.place in
    let post : IsPost c sig o (inv_of ends.prover) p = post_at_place c sig o (inv_of ends.prover) posts g p h.history placed in
    let at_entry : slice_get (entries_of posts) k ≡ Some p.entry = slice_get-map (λ (x : Post). x.entry) posts k ∙ ap (option_map (λ (x : Post). x.entry)) placed.at_place in
    let few = few_entries o (2 ^ length sig) (entries_of posts) h.history.legal (few_goals sig h.signals.few) in
    let number : p.entry.number < 2 ^ 64 = omega (arith, (h.history.legal.entries k p.entry at_entry).number, slice_get_within (entries_of posts) k p.entry at_entry, few) in
    settled_fits c sig (inv_of ends.prover) p.entry.goal p.entry.number p.basis number post.basis
    (of_post (λ (x : Post). HasShortBasis x.basis) posts k p fit.short.bases placed.at_place) (of_post (λ (x : Post). HasBasisLiterals x.basis) posts k p fit.basis_literals placed.at_place)

goal_form : (c : Parts) (sig : List ℕ) (o : Options) (posts : List Post) (ends : Ends) (bounds : OpenBounds) (opens bs : List GoalBlock) (r : Report) (g : ℕ) (b : GoalBlock) → IsFit o posts ends
    → IsComposed c sig o posts ends bounds opens bs r → slice_get bs g ≡ Some b → FitsBlock (length c.inputs) (length c.latches) b
goal_form c sig o posts ends bounds opens bs r g b fit h e =
    subst (FitsBlock (length c.inputs) (length c.latches)) (block_is c sig o posts ends bounds opens bs r g b h e) (block_form c sig o posts ends bounds opens bs r g (first_post posts g) fit h refl)

pub report_form : (c : Parts) (sig : List ℕ) (o : Options) (posts : List Post) (ends : Ends) (bounds : OpenBounds) (opens bs : List GoalBlock) (r : Report) → IsFit o posts ends
    → IsComposed c sig o posts ends bounds opens bs r → HasForm r
report_form c sig o posts ends bounds opens bs r fit h =
    let few = few_goals sig h.signals.few in
    let es = entries_of posts in
    let tells = report_tells c sig o posts ends bounds opens bs r h in
    let legal : IsLegalHistory o (2 ^ length sig) es = h.history.legal in
    let short : length es ≤ 8192 = few_entries o (2 ^ length sig) es legal few in
    let spents : r.spents ≡ all_spents ends = h.holds.spents ∙ h.spents_are in
    let refutes : r.refutes ≡ all_refutes ends = h.holds.refutes ∙ h.refutes_are in
    let seeds : r.seeds ≡ seeds_of ends.batches = h.holds.seeds ∙ h.seeds_are in
    let invs : r.invs ≡ invs_from (count_by is_unreachable bs) (inv_of ends.prover) = h.holds.invs ∙ h.invs_are in
    let lines = seeds_tell c sig o es ends.batches h.told.batches in
    let count : length r.goals ≡ 2 ^ length sig = tells.each_goal in
    record {
      inputs = omega (arith, h.holds.inputs, h.circuit.sized.inputs);
      latches = omega (arith, h.holds.latches, h.circuit.sized.latches);
      signals = omega (arith, h.holds.signals, h.signals.few);
      options = rw h.holds.options fit.options;
      history = rw h.holds.history (record {
        count = omega (arith, short);
        items = recursion_from_All FitsEntry es (λ k d l. entry_fits o (2 ^ length sig) k (get_or es k d) fit.ranges few (omega (arith, l, short)) (legal.entries k (get_or es k d) (slice_get-get_or es k d l)));
      });
      seeds = rw (seeds, h.holds.inputs, h.holds.latches) (seeds_fit c sig o (seeds_of ends.batches) fit.ranges fit.options.length lines);
      invs = rw invs (invs_fit c sig o es ends.prover (count_by is_unreachable bs) h.circuit h.told.prover fit.short.kept fit.end_literals.prover);
      goals = record {
        count = omega (arith, count, few);
        items = rw (h.holds.inputs, h.holds.latches, h.holds.goals) (recursion_from_All (FitsBlock (length c.inputs) (length c.latches)) bs (λ k d l.
            goal_form c sig o posts ends bounds opens bs r k (get_or bs k d) fit h (slice_get-get_or bs k d l)));
      };
      spents = rw spents (queries_fit c sig o es (seeds_of ends.batches) (all_spents ends) h.circuit legal few fit.ranges fit.options.depth fit.options.hop (omega (arith, lines.count, fit.ranges.batches))
          (spents_tell c sig o es ends h.told) (spents_literals ends fit.end_literals));
      refutes = rw refutes (refutes_fit c sig o es ends legal few fit.ranges (omega (arith, h.told.batches.count, fit.ranges.batches)) h.told fit.end_literals);
      reached = omega (arith, tells.reached, count_by-le-length is_reached r.goals, count, few);
      unreachable = omega (arith, tells.unreachable, count_by-le-length is_unreachable r.goals, count, few);
      unsettled = omega (arith, tells.unsettled, count_by-le-length is_open r.goals, count, few);
    }
