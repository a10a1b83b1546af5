-- What a leaf lends.
use Rattle.aug_monoid.specs.declared.lent.Lent.{Lent}
use Rattle.aug_monoid.specs.declared.lent.Lent.TheVariants.{Kept, Decoded}

-- the entry that is lent
abbrev pub entry_of : {K V : Type 0} → Lent K V → K × V
entry_of (Kept entry) = entry.now
entry_of (Decoded key val) = (key, val)
