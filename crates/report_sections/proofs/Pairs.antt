-- Two pieces, one behind the other, and a piece of another shape.
use Rattle.std.proofs.Common.{◌≡◌, List, ◌++◌, refl, sym, ◌∙◌, subst, Ok}
use Rattle.report_text.specs.Text.{Line}
use Rattle.report_text.proofs.Lines.{AreLines}
use Rattle.report_text.proofs.Pieces.{IsSpelling}
use Rattle.report_lines.specs.Reading.{Place, Read, ◌>>=◌}
use Rattle.report_sections.specs.Pieces.{Speak, Passes, ReadsTo}
use Rattle.report_sections.proofs.Stops.{Same, stops_same}
use Rattle.report_sections.proofs.Combine.{bind-reads, lift-reads, Leads, leads-reads}

second-same : {A B : Type 0} (F : A → Type 0) (G : B → Type 0) (m : B → List Line) (a : A) → F a → Same (Speak G m) (Speak (λ (t : A × B). (F t.0 × G t.1) × (t.0 ≡ a)) (λ t. m t.1))
second-same F G m a f = record {
  there = λ ls s. record { value = (a, s.value); fits = ((f, s.fits), refl); are = s.are };
  back = λ ls s. record { value = s.value.1; fits = s.fits.0.1; are = s.are };
}

pub pair-reads : {A B : Type 0} (F : A → Type 0) (l : A → List Line) (G : B → Type 0) (m : B → List Line) (p : Place) (r : Read A) (read : Place → Read B) (some : B) → IsSpelling F l → ((b : B) → G b → AreLines (m b)) → G some
    → ReadsTo F l p r → ((q : Place) → ReadsTo G m q (read q)) → ReadsTo (λ (t : A × B). F t.0 × G t.1) (λ t. l t.0 ++ m t.1) p (r >>= λ a. read a.1 >>= λ b. Ok ((a.0, b.0), b.1))
pair-reads {A} {B} F l G m p r read some spelling plain fits reads more =
    let all : (A × B) → Type 0 = λ t. F t.0 × G t.1 in
    let leads : Leads F l all (λ t. l t.0 ++ m t.1) (λ t. t.0) (λ t. m t.1) = record {
      fits = λ t f. f.0;
      are = λ t f. refl;
      plain = λ t f. plain t.1 f.1;
      some = λ a f. (a, some);
      some_fits = λ a f. (f, fits);
      some_head = λ a f. refl;
    } in
    leads-reads F l all (λ t. l t.0 ++ m t.1) (λ t. t.0) (λ t. m t.1) p r (λ a. read a.1 >>= λ b. Ok ((a.0, b.0), b.1)) spelling leads reads
    (λ a q f _.
    bind-reads G m (λ (t : A × B). (F t.0 × G t.1) × (t.0 ≡ a)) (λ t. m t.1) q q (read q) (λ b. Ok ((a, b.0), b.1)) (more q) (λ b s g pass. (((f, g), refl), pass))
    (λ e st. stops_same (Speak G m) (Speak (λ (t : A × B). (F t.0 × G t.1) × (t.0 ≡ a)) (λ t. m t.1)) q e (second-same F G m a f) st))

pub record Shapes {A B : Type 0} (F : A → Type 0) (l : A → List Line) (G : B → Type 0) (m : B → List Line) (f : A → B) (g : B → A) : Type 0 where
  pub there : (a : A) → F a → G (f a) × (m (f a) ≡ l a)
  pub back : (b : B) → G b → F (g b) × (l (g b) ≡ m b)

pub mapped-reads : {A B : Type 0} (F : A → Type 0) (l : A → List Line) (G : B → Type 0) (m : B → List Line) (f : A → B) (g : B → A) (p : Place) (r : Read A) → Shapes F l G m f g → ReadsTo F l p r
    → ReadsTo G m p (r >>= λ a. Ok (f a.0, a.1))
mapped-reads F l G m f g p r shapes reads =
    let same : Same (Speak F l) (Speak G m) = record {
      there = λ ls s. record { value = f s.value; fits = (shapes.there s.value s.fits).0; are = (shapes.there s.value s.fits).1 ∙ s.are };
      back = λ ls s. record { value = g s.value; fits = (shapes.back s.value s.fits).0; are = (shapes.back s.value s.fits).1 ∙ s.are };
    } in
    bind-reads F l G m p p r (λ a. Ok (f a.0, a.1)) reads
    (λ a s h pass. ((shapes.there a h).0, subst (λ (ls : List Line). Passes ls p s) (sym (shapes.there a h).1) pass)) (λ e st. stops_same (Speak F l) (Speak G m) p e same st)

-- the same lines and values, under another condition
pub same-reads : {A : Type 0} (F G : A → Type 0) (lines : A → List Line) (p : Place) (r : Read A) → ((a : A) → F a → G a) → ((a : A) → G a → F a) → ReadsTo F lines p r → ReadsTo G lines p r
same-reads F G lines p r there back reads =
    let same : Same (Speak F lines) (Speak G lines) = record {
      there = λ ls s. record { value = s.value; fits = there s.value s.fits; are = s.are };
      back = λ ls s. record { value = s.value; fits = back s.value s.fits; are = s.are };
    } in
    lift-reads F lines G lines p p r reads (λ a s f pass. (there a f, pass)) (λ e st. stops_same (Speak F lines) (Speak G lines) p e same st)
