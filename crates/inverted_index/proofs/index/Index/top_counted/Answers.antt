use Rattle.std.proofs.Common.{ap, take, ◌∙◌, arith}
use Rattle.std.proofs.lemmas.Result.{IfOk-weaker}
use Rattle.inverted_index.specs.Queries.{hits_of, ranked}
use Rattle.inverted_index.proofs.Found.{low_found, one_found, top_found}
use Rattle.inverted_index.proofs.TopCosts.{first_cost, term_cost}
use Rattle.inverted_index.proofs.index.Index.top_counted.Goals as goal

pub top-requires : goal.top-requires
top-requires g c = record { low = low_found c.self.inside.known.entries c.self.inside.lists.entries c.args.self.now c.self.invariant c.self.view_is c.args.term.now c.map.result.now.entries (c.map.ensures ∙ c.in_ok-list.ensures.postings) }

pub returns-clause-hits : goal.returns-clause-hits
returns-clause-hits g c = IfOk-weaker c.top.result _ _ (λ hits h. h ∙ ap (λ x. hits_of (take c.args.k (ranked x))) (one_found c.self.inside.known.entries c.self.inside.lists.entries c.args.self.now c.self.invariant c.self.view_is c.args.term.now c.map.result.now.entries (c.map.ensures ∙ c.in_ok-list.ensures.postings))) c.top.ensures.hits

pub returns-clause-ranks : goal.returns-clause-ranks
returns-clause-ranks g c = IfOk-weaker c.top.result _ _ (λ hits h. top_found c.self.inside.known.entries c.self.inside.lists.entries c.args.self.now c.self.invariant c.self.view_is c.args.term.now c.map.result.now.entries c.args.k hits.items (c.map.ensures ∙ c.in_ok-list.ensures.postings) h) c.top.ensures.hits

pub returns-clause-cost : goal.returns-clause-cost
returns-clause-cost g c height highest =
    let same = one_found c.self.inside.known.entries c.self.inside.lists.entries c.args.self.now c.self.invariant c.self.view_is c.args.term.now c.map.result.now.entries (c.map.ensures ∙ c.in_ok-list.ensures.postings) in
    first_cost c.self.inside.known.entries c.self.inside.lists.entries c.args.self.now c.self.invariant c.self.view_is c.args.k c.self.inside.lists.height height _ _ _ c.args.term.now c.map.result.now.entries same c.height-height.ensures.law highest c.in_ok-list.ensures.cost (c.top.ensures.cost height)

pub returns-in_err-list-clause-cost : goal.returns-in_err-list-clause-cost
returns-in_err-list-clause-cost g c height highest =
    let search = term_cost c.self.inside.known.entries c.self.inside.lists.entries c.args.self.now c.self.invariant c.self.view_is c.self.inside.lists.height height _ _ c.height-height.ensures.law highest c.find_list.ensures.cost in
    omega (arith, search)
