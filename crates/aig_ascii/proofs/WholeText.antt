-- What is asked of a whole text: of the header, and then of what follows it.
use Rattle.std.proofs.Common.{◌≡◌, ℕ, None, List, sym, ap, ◌∙◌, subst}
use Rattle.text_words.specs.Text.{Rest, next_line, whole}
use Rattle.aig_ascii.specs.Header.{header_demands, sizes_of}
use Rattle.aig_ascii.specs.Aag.{layout_from, layout_of, demands}
use Rattle.aig_ascii.specs.ReadSections.{behind_header}
use Rattle.aig_ascii.specs.FirstFaults.{first_unmet, Fails}
use Rattle.aig_ascii.specs.declared.header.Sizes.{Sizes}
use Rattle.aig_ascii.specs.declared.fault.Fault.{Fault}
use Rattle.aig_ascii.proofs.FirstFaults.{fails-front, fails-behind, first_unmet-behind}
use Rattle.aig_ascii.specs.Kinds.{aag_kind}
use Rattle.aig_ascii.specs.declared.fault.AagKind.{AagKind}
use Rattle.aig_ascii.specs.declared.header.Format.TheVariants.{Ascii}

-- where reading goes on behind the header
pub layout-read : (text : List ℕ) (start x : Rest) (s : Sizes) → start ≡ whole text → s ≡ sizes_of start → x ≡ next_line start → layout_from s x ≡ layout_of text
layout-read text start x s is sizes next =
    ap (λ (z : Sizes). layout_from z x) (sizes ∙ ap sizes_of is) ∙ ap (layout_from (sizes_of (whole text))) (next ∙ ap next_line is)

pub header-fails : (e : Fault AagKind) (text : List ℕ) (start : Rest) → start ≡ whole text → Fails e (first_unmet (header_demands aag_kind Ascii start)) → Fails e (first_unmet (demands text))
header-fails e text start is f =
    fails-front e (header_demands aag_kind Ascii (whole text)) (behind_header (layout_of text)) (subst (λ (r : Rest). Fails e (first_unmet (header_demands aag_kind Ascii r))) is f)

pub body-fails : (e : Fault AagKind) (text : List ℕ) (start x : Rest) (s : Sizes) → start ≡ whole text → first_unmet (header_demands aag_kind Ascii start) ≡ None → s ≡ sizes_of start → x ≡ next_line start
    → Fails e (first_unmet (behind_header (layout_from s x))) → Fails e (first_unmet (demands text))
body-fails e text start x s is met sizes next f =
    fails-behind e (header_demands aag_kind Ascii (whole text)) (behind_header (layout_of text)) (ap (λ (r : Rest). first_unmet (header_demands aag_kind Ascii r)) (sym is) ∙ met)
    (subst (λ l. Fails e (first_unmet (behind_header l))) (layout-read text start x s is sizes next) f)

pub all-met : (text : List ℕ) (start x : Rest) (s : Sizes) → start ≡ whole text → first_unmet (header_demands aag_kind Ascii start) ≡ None → s ≡ sizes_of start → x ≡ next_line start
    → first_unmet (behind_header (layout_from s x)) ≡ None → first_unmet (demands text) ≡ None
all-met text start x s is met sizes next f =
    first_unmet-behind (header_demands aag_kind Ascii (whole text)) (behind_header (layout_of text)) (ap (λ (r : Rest). first_unmet (header_demands aag_kind Ascii r)) (sym is) ∙ met)
    ∙ ap (λ l. first_unmet (behind_header l)) (sym (layout-read text start x s is sizes next)) ∙ f
