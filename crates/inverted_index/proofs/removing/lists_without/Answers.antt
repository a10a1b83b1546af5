use Rattle.std.proofs.Common.{◌≡◌, ap₂, rules, subst, sym, ◌∙◌}
use Rattle.map_model.specs.Entries.{IsIncreasing, lookup}
use Rattle.inverted_index.specs.Merging.{Lists}
use Rattle.inverted_index.specs.Removing.{taken}
use Rattle.inverted_index.specs.Terms.{bytes_cmp}
use Rattle.inverted_index.proofs.removing.lists_without.Goals as goal

pub take_out_each-requires : goal.take_out_each-requires
take_out_each-requires g c =
    let Up : Lists → Type 0 = λ m. IsIncreasing bytes_cmp m in
    subst Up (sym (c.deref.ensures.value ∙ c.in_ok-entries.ensures)) c.size-number.ensures.increasing

pub returns-clause-lists : goal.returns-clause-lists
returns-clause-lists g c = λ t.
    let listed : c.deref.result.now ≡ c.args.lists.now.entries = c.deref.ensures.value ∙ c.in_ok-entries.ensures in
    let shared : c.in_ok-after.after.entries ≡ c.args.lists.now.entries = first_of (cc, search rules) in
    c.in_ok-take_out_each.ensures t ∙ ap₂ (λ (m n : Lists). taken c.args.doc (lookup bytes_cmp m t) (lookup bytes_cmp n t)) listed shared
