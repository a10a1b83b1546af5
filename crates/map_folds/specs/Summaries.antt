-- The saturating sum, the greatest and the least.
use Rattle.std.specs.Prelude.{ℕ, ◌-◌, ◌^◌, ◌≤◌, min}
use Rattle.std.proofs.Common.{ap₂, arith}
use Rattle.map_model.specs.Fold.{IsMonoidOver}
use Rattle.aug_monoid.specs.declared.totals.Totals.{Totals}
use Rattle.aug_monoid.specs.Totals.{TotalsFit, totals_base, totals_unit, totals_combine, totals_monoid, totals_base_fits}
use Rattle.map_folds.specs.declared.summary.Summary.{Summary}

abbrev pub summary : Totals → ℕ → Summary
summary totals least = record { totals = totals; least = least }

-- of no numbers the least is the greatest of 64 bits
abbrev pub summary_unit : Summary
summary_unit = summary totals_unit (2 ^ 64 - 1)

-- all parts are numbers of 64 bits
abbrev pub SummaryFits : Summary → Type 0
SummaryFits s = TotalsFit s.totals × (s.least ≤ 2 ^ 64 - 1)

-- a value in all parts, brought into 64 bits
abbrev pub summary_base : ℕ → Summary
summary_base val = summary (totals_base val) (min val (2 ^ 64 - 1))

abbrev pub summary_combine : Summary → Summary → Summary
summary_combine a b = summary (totals_combine a.totals b.totals) (min a.least b.least)

pub summary_monoid : IsMonoidOver SummaryFits summary_unit summary_combine
summary_monoid = record {
  unit_fits = (totals_monoid.unit_fits, omega arith);
  combine_fits = λ a b f g. (totals_monoid.combine_fits a.totals b.totals f.0 g.0, omega arith);
  left_unit = λ a f. ap₂ summary (totals_monoid.left_unit a.totals f.0) (omega arith);
  right_unit = λ a f. ap₂ summary (totals_monoid.right_unit a.totals f.0) (omega arith);
  assoc = λ a b c f g h. ap₂ summary (totals_monoid.assoc a.totals b.totals c.totals f.0 g.0 h.0) (omega arith);
}

pub summary_base_fits : (val : ℕ) → SummaryFits (summary_base val)
summary_base_fits val = (totals_base_fits val, omega arith)
