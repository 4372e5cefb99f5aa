-- The lines of the sections, one section after another.
use Rattle.std.proofs.Common.{◌≡◌, ℕ, None, List, ◌++◌, refl, sym, ap, ◌∙◌, subst}
use Rattle.text_words.specs.Text.{Rest, after_lines}
use Rattle.aig_ascii.specs.Demands.{Demand}
use Rattle.aig_ascii.specs.FirstFaults.{first_unmet, Fails}
use Rattle.aig_ascii.specs.declared.header.Sizes.{Sizes}
use Rattle.aig_ascii.specs.declared.fault.Fault.{Fault}
use Rattle.aig_ascii.proofs.FirstFaults.{first_unmet-behind, fails-front}
use Rattle.aig_binary.specs.Sections.{lits_demands}
use Rattle.aig_binary.specs.Aig.{layout_from, line_section_demands}
use Rattle.aig_binary.specs.declared.fault.AigKind.{AigKind}

-- what is asked so far is met, and these demands are what is left
pub record Reaches (all left : List (Demand AigKind)) (place at : Rest) : Type 0 where
  pub same : first_unmet all ≡ first_unmet left
  pub there : place ≡ at

pub begins : (s : Sizes) (r : Rest) → Reaches (line_section_demands (layout_from s r)) (line_section_demands (layout_from s r)) r r
begins s r = record { same = refl; there = refl }

pub goes-on : (all here left : List (Demand AigKind)) (place at new : Rest) (n : ℕ) → Reaches all (here ++ left) place at → first_unmet here ≡ None → new ≡ after_lines n place → Reaches all left new (after_lines n at)
goes-on all here left place at new n r met e = record { same = r.same ∙ first_unmet-behind here left met; there = e ∙ ap (after_lines n) r.there }

pub fails-here : (e : Fault AigKind) (all here left : List (Demand AigKind)) (place at : Rest) → Reaches all (here ++ left) place at → Fails e (first_unmet here) → Fails e (first_unmet all)
fails-here e all here left place at r f = subst (λ o. Fails e o) (sym r.same) (fails-front e here left f)

-- lines of literals at this place
pub lits-at : (top n : ℕ) (place at : Rest) → place ≡ at → first_unmet (lits_demands top n place) ≡ first_unmet (lits_demands top n at)
lits-at top n place at e = ap (λ (r : Rest). first_unmet (lits_demands top n r)) e
