-- Intervals by their ends.
use Rattle.std.specs.declared.cmp.Ordering.{Ordering}
use Rattle.std.specs.Ordering.{ordering_then}
use Rattle.std.proofs.Common.{ap}
use Rattle.std.proofs.lemmas.Map.Lookups.{exact_pairs}
use Rattle.map_model.specs.Order.{IsExact}
use Rattle.aug_monoid.specs.declared.span.Span.{Span}

module _ {E : Type 0} where
  -- the interval from a left end to a right end
  abbrev pub span : E → E → Span E
  span left right = record { left = left; right = right }

  -- by the left ends, and then by the right ends
  abbrev pub span_cmp : (E → E → Ordering) → Span E → Span E → Ordering
  span_cmp order a b = ordering_then (order a.left b.left) (order a.right b.right)

  pub span_exact : (order : E → E → Ordering) → IsExact order → IsExact (span_cmp order)
  span_exact order exact a b h = ap (λ (p : E × E). span p.0 p.1) (exact_pairs order order exact exact (a.left, a.right) (b.left, b.right) h)
