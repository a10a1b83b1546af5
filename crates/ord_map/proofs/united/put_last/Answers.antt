use Rattle.std.proofs.Common.{◌≡◌, [], ◌∷◌, ◌++◌, true, false, sym, ap, ◌∙◌, rules}
use Rattle.std.specs.Ordering.{is_eq}
use Rattle.ord_map.proofs.Turns.{pushed_behind, resolved_last}
use Rattle.ord_map.proofs.united.put_last.Goals as goal

pub returns-then-is_eq : goal.returns-then-is_eq
returns-then-is_eq g c =
    let f = g.H.Resolve.resolved c.args.how.now in
    let front = c.pop.new.self.items in
    let pushed : c.push-then-is_eq.new.self.items ≡ front ++ (c.in-Some.last, c.in_ok-both.both) ∷ [] = search rules in
    let tie : is_eq (g.K.Ord.cmp c.in-Some.last c.args.entry.0) ≡ true = search rules in
    pushed
    ∙ ap (λ v. front ++ (c.in-Some.last, v) ∷ []) c.in_ok-both.ensures
    ∙ resolved_last g.met.K.Ord.total g.met.K.Key.exact f front c.args.into.now.items c.in-Some.last c.in-Some.old c.args.entry c.in-Some.ensures.items c.requires.increasing tie

pub returns : goal.returns
returns g c =
    let f = g.H.Resolve.resolved c.args.how.now in
    let apart : is_eq (g.K.Ord.cmp c.in-Some.last c.args.entry.0) ≡ false = search rules in
    let back : c.push-2.new.self.items ≡ c.pop.new.self.items ++ (c.in-Some.last, c.in-Some.old) ∷ [] = search rules in
    let pushed : c.push-3.new.self.items ≡ c.push-2.new.self.items ++ c.args.entry ∷ [] = search rules in
    pushed
    ∙ ap (λ m. m ++ c.args.entry ∷ []) (back ∙ sym c.in-Some.ensures.items)
    ∙ pushed_behind g.met.K.Ord.total g.met.K.Key.exact f c.pop.new.self.items c.args.into.now.items c.in-Some.last c.in-Some.old c.args.entry c.in-Some.ensures.items c.requires.increasing c.requires.highest apart
