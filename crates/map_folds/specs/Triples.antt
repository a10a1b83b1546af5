-- Three augmented values side by side.
use Rattle.std.proofs.Common.{◌≡◌}
use Rattle.map_model.specs.Fold.{IsMonoidOver}

module _ {X Y Z : Type 0} where
  -- all three parts fit
  abbrev pub TripleFits : (X → Type 0) → (Y → Type 0) → (Z → Type 0) → X × Y × Z → Type 0
  TripleFits fits_x fits_y fits_z t = fits_x t.0 × fits_y t.1 × fits_z t.2

  -- each part is combined
  abbrev pub triple_combine : (X → X → X) → (Y → Y → Y) → (Z → Z → Z) → X × Y × Z → X × Y × Z → X × Y × Z
  triple_combine combine_x combine_y combine_z a b = (combine_x a.0 b.0, combine_y a.1 b.1, combine_z a.2 b.2)

  triple_same : (p q : X × Y × Z) → p.0 ≡ q.0 → p.1 ≡ q.1 → p.2 ≡ q.2 → p ≡ q
  triple_same p q e f h = λ i. (e i, f i, h i)

  pub triple_monoid : {fits_x : X → Type 0} {fits_y : Y → Type 0} {fits_z : Z → Type 0} {unit_x : X} {unit_y : Y} {unit_z : Z} {combine_x : X → X → X} {combine_y : Y → Y → Y} {combine_z : Z → Z → Z} → IsMonoidOver fits_x unit_x combine_x → IsMonoidOver fits_y unit_y combine_y → IsMonoidOver fits_z unit_z combine_z → IsMonoidOver (TripleFits fits_x fits_y fits_z) (unit_x, unit_y, unit_z) (triple_combine combine_x combine_y combine_z)
  triple_monoid m n o = record {
    unit_fits = (m.unit_fits, n.unit_fits, o.unit_fits);
    combine_fits = λ a b p q. (m.combine_fits a.0 b.0 p.0 q.0, n.combine_fits a.1 b.1 p.1 q.1, o.combine_fits a.2 b.2 p.2 q.2);
    left_unit = λ a p. triple_same _ _ (m.left_unit a.0 p.0) (n.left_unit a.1 p.1) (o.left_unit a.2 p.2);
    right_unit = λ a p. triple_same _ _ (m.right_unit a.0 p.0) (n.right_unit a.1 p.1) (o.right_unit a.2 p.2);
    assoc = λ a b c p q r. triple_same _ _ (m.assoc a.0 b.0 c.0 p.0 q.0 r.0) (n.assoc a.1 b.1 c.1 p.1 q.1 r.1) (o.assoc a.2 b.2 c.2 p.2 q.2 r.2);
  }
