use Rattle.std.proofs.Common.{◌∙◌, ap, sym, subst}
use Rattle.std.proofs.lemmas.Result.{IfOk-weaker}
use Rattle.std.specs.Ordering.{nat_cmp}
use Rattle.map_model.specs.Entries.{IsIncreasing}
use Rattle.map_model.specs.SetOperations.{difference}
use Rattle.graph_snap.proofs.search.not_in_list.Goals as goal

pub not_known-requires-clause-known : goal.not_known-requires-clause-known
not_known-requires-clause-known c = subst (IsIncreasing nat_cmp) (sym (c.deref.ensures.value ∙ c.in_ok-known.ensures)) c.size-size.ensures.increasing

pub returns : goal.returns
returns c = IfOk-weaker c.not_known.result _ _ (λ left h. h ∙ ap (λ x. difference nat_cmp c.args.near.now x) (c.deref.ensures.value ∙ c.in_ok-known.ensures)) c.not_known.ensures
