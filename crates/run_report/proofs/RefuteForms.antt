-- The queries that have no model have the form of a report's text.
use Rattle.std.proofs.Common.{◌≡◌, ℕ, suc, ◌*◌, ◌<◌, ◌≤◌, ◌^◌, Bool, true, false, List, [], ◌∷◌, ◌++◌, length, get_or, refl, sym, subst, arith, length-append, All, Option, Some, None}
use Rattle.std.specs.Prelude.{slice_get}
use Rattle.std.proofs.lemmas.List.Elements.{recursion_from_All, All-append, All-nil, All-head, All-tail}
use Rattle.std.proofs.lemmas.Option.{slice_get-get_or, slice_get_within}
use Rattle.aig_model.specs.declared.parts.Parts.{Parts}
use Rattle.board_core.specs.History.{IsLegalHistory}
use Rattle.board_core.specs.declared.entry.Entry.{Entry}
use Rattle.lrat_text.specs.Text.{HasProofLiterals, IsWritable}
use Rattle.report_text.specs.Form.{FitsBlocked, FitsRefute, FitsSearch, IsCounted}
use Rattle.report_text.specs.declared.report.Block.{Block}
use Rattle.report_text.specs.declared.report.BlockName.{BlockName}
use Rattle.report_text.specs.declared.report.SeedLine.{SeedLine}
use Rattle.sim_walk.specs.declared.options.Options.{Options}
use Rattle.unroll.specs.declared.start.Start.{Start}
use Rattle.unroll.specs.declared.start.Start.TheVariants.{Reset, State}
use Rattle.run_report.specs.declared.ends.BatchEnd.{BatchEnd}
use Rattle.run_report.specs.declared.ends.Ends.{Ends}
use Rattle.run_report.specs.declared.ends.SearchBlocks.{SearchBlocks}
use Rattle.run_report.specs.declared.searches.Search.{Search}
use Rattle.run_report.specs.declared.searches.Search.TheVariants as searches
use Rattle.run_report.specs.Ended.{all_refutes, hop_refutes, refutes_of}
use Rattle.run_report.specs.Ends.{AreRefutedStepsIf, AreTold, IsHopEnd, last_whole}
use Rattle.run_report.specs.Lines.{HaveEndLiterals, HaveSearchLiterals}
use Rattle.run_report.specs.Ranges.{AreInRange}
use Rattle.run_report.specs.Searches.{name_of}
use Rattle.run_report.proofs.Forms.{blocked_fits}

-- what a report's text needs of such a query, but for its literals
record IsInForm (b : Block) : Type 0 where
  query : FitsSearch b.name b.blocked
  count : length b.proof < 2 ^ 32
  ids : IsWritable b.proof

-- and of those of one search
record AreInForm (bs : List Block) : Type 0 where
  few : length bs ≤ 4000000
  each : All IsInForm bs

none_in_form : AreInForm []
none_in_form = record { few = omega arith; each = All-nil IsInForm }

-- the batch of a hop fits
abbrev FitsBatch : Search → Type 0
FitsBatch searches.Sweep = Unit {0}
FitsBatch (searches.Hop batch) = batch < 2 ^ 32

search_fits : (search : Search) (step : ℕ) (goals : List ℕ) → FitsBatch search → step < 2 ^ 32 → FitsBlocked goals → FitsSearch (name_of search step) goals
search_fits searches.Sweep step goals batch near blocked = (near, blocked)
search_fits (searches.Hop b) step goals batch near blocked = (batch, near, blocked)

steps_in_form : (proofs : Bool) (c : Parts) (sig : List ℕ) (o : Options) (es : List Entry) (start : Start) (greatest : ℕ) (search : Search) (bound : Option ℕ) (bs : List Block)
    → IsLegalHistory o (2 ^ length sig) es → 2 ^ length sig ≤ 1024 → AreInRange o → FitsBatch search → AreRefutedStepsIf proofs c sig o es start greatest search bound bs → AreInForm bs
steps_in_form false c sig o es start greatest search bound bs legal few ranges batch h = subst AreInForm (sym h) none_in_form
steps_in_form true c sig o es start greatest search bound bs legal few ranges batch h = record {
  few = h.few;
  each = λ k d l. (
      let b = get_or bs k d in
      let own = h.each k b (slice_get-get_or bs k d l) in
      let query : FitsSearch (name_of search k) b.blocked = search_fits search k b.blocked batch (omega (arith, l, h.few)) (blocked_fits o (2 ^ length sig) es b.blocked legal few own.refuted.left_out) in
      record {
        query = subst (λ (n : BlockName). FitsSearch n b.blocked) (sym own.name) query;
        count = omega (arith, own.short, ranges.lemmas);
        ids = own.refuted.written;
      }
      );
}

hop_in_form : (c : Parts) (sig : List ℕ) (o : Options) (es : List Entry) (b : ℕ) (seed : Option SeedLine) (hop : SearchBlocks) → IsLegalHistory o (2 ^ length sig) es → 2 ^ length sig ≤ 1024 → AreInRange o
    → b < 2 ^ 32 → IsHopEnd c sig o es b seed hop → AreInForm hop.refuted
hop_in_form c sig o es b None hop legal few ranges inside end = subst (λ (x : SearchBlocks). AreInForm x.refuted) (sym end) none_in_form
hop_in_form c sig o es b (Some s) hop legal few ranges inside end =
    steps_in_form o.proofs c sig o es (State s.state) o.hop (searches.Hop b) (last_whole o.hop (searches.Hop b) hop) hop.refuted legal few ranges inside end.refuted

-- those of all hops
record AreHopsInForm (ends : List BatchEnd) : Type 0 where
  few : length (hop_refutes ends) ≤ length ends * 4000000
  each : All IsInForm (hop_refutes ends)

hops_in_form : (ends : List BatchEnd) → ((k : ℕ) (end : BatchEnd) → slice_get ends k ≡ Some end → AreInForm (refutes_of end)) → AreHopsInForm ends
hops_in_form [] h = record { few = omega arith; each = All-nil IsInForm }
hops_in_form (x ∷ ends) h =
    let own = h 0 x refl in
    let rest = hops_in_form ends (λ k end e. h (suc k) end e) in
    record {
      few = omega (arith, own.few, rest.few, length-append (refutes_of x) (hop_refutes ends));
      each = All-append IsInForm (refutes_of x) (hop_refutes ends) own.each rest.each;
    }

-- ---- their literals
hops_literals : (ends : List BatchEnd) → All (λ (end : BatchEnd). HaveSearchLiterals end.hop) ends → All (λ (b : Block). HasProofLiterals b.proof) (hop_refutes ends)
hops_literals [] h = All-nil (λ (b : Block). HasProofLiterals b.proof)
hops_literals (x ∷ ends) h =
    All-append (λ (b : Block). HasProofLiterals b.proof) (refutes_of x) (hop_refutes ends) (All-head (λ (end : BatchEnd). HaveSearchLiterals end.hop) x ends h).refuted
    (hops_literals ends (All-tail (λ (end : BatchEnd). HaveSearchLiterals end.hop) x ends h))

-- ---- all of them
pub refutes_fit : (c : Parts) (sig : List ℕ) (o : Options) (es : List Entry) (ends : Ends) → IsLegalHistory o (2 ^ length sig) es → 2 ^ length sig ≤ 1024 → AreInRange o → length ends.batches ≤ 16
    → AreTold c sig o es ends → HaveEndLiterals ends → IsCounted FitsRefute (all_refutes ends)
refutes_fit c sig o es ends legal few ranges batches told literals =
    let own = ends.sweep.refuted in
    let others = hop_refutes ends.batches in
    let first : AreInForm own = steps_in_form o.proofs c sig o es Reset o.depth searches.Sweep (last_whole o.depth searches.Sweep ends.sweep) own legal few ranges tt told.sweep.refuted in
    let second : AreHopsInForm ends.batches = hops_in_form ends.batches (λ k end e. (
    let inside : k < length ends.batches = slice_get_within ends.batches k end e in
    hop_in_form c sig o es k end.seed end.hop legal few ranges (omega (arith, inside, batches)) (told.batches.each k end e).hop
    )) in
    let each : All IsInForm (own ++ others) = All-append IsInForm own others first.each second.each in
    let fit : All (λ (b : Block). HasProofLiterals b.proof) (own ++ others) =
    All-append (λ (b : Block). HasProofLiterals b.proof) own others literals.sweep.refuted (hops_literals ends.batches literals.batches) in
    record {
      count = omega (arith, first.few, second.few, batches, length-append own others);
      items = recursion_from_All FitsRefute (own ++ others) (λ k d l. (
          let form = each k d l in
          record { query = form.query; proof = record { count = form.count; ids = form.ids; literals = fit k d l } }
          ));
    }
