-- Indexes cross threads, by the laws of their parts. An answer writes a fact anew as a record, since what a call asks is of the same
-- type in another writing.
use denote.Param.{param}
use denote.Param.Send.{IsSend, IsSync, param_send, sendable}
use denote.RattleType.{RattleType}
use Rattle.std.proofs.Crossing.{crosses as std_crosses}
use Rattle.tree_shape.proofs.tree.Tree.TheLaws.TheKnot.{both_send-Tree as tree_send, both_sync-Tree as tree_sync}
use Rattle.tree_shape.proofs.tree.Block.TheSendSync as Block
use Rattle.leaf_blocks.proofs.plain_leaf.PlainLeaf.TheSendSync as PlainLeafSent
use Rattle.leaf_blocks.specs.contracts.plain_leaf.PlainLeaf as PlainLeaf
use Rattle.inverted_index.specs.contracts.postings.Postings as Postings
use Rattle.inverted_index.specs.contracts.postings.PostingsShare.TheImpl as postings_shared
use Rattle.inverted_index.specs.contracts.term.Term as Term
use Rattle.inverted_index.specs.contracts.term.TermOrd.TheImpl as ordered
use Rattle.inverted_index.specs.contracts.term.TermPartialEq.TheImpl as equal
use Rattle.inverted_index.specs.contracts.term.TermPartialOrd.TheImpl as compared
use Rattle.inverted_index.specs.contracts.term.TermShare.TheImpl as term_shared

pub term_send : IsSend Term.the_row
term_send = search (sendable, std_crosses) depth 20

pub term_sync : IsSync Term.the_row
term_sync = search (sendable, std_crosses) depth 20

pub postings_send : IsSend Postings.the_row
postings_send = search (sendable, std_crosses, tree_send, Block.the_send, Block.the_sync, PlainLeafSent.the_send, PlainLeafSent.the_sync) depth 20

pub postings_sync : IsSync Postings.the_row
postings_sync = search (sendable, std_crosses, tree_sync, Block.the_send, Block.the_sync, PlainLeafSent.the_send, PlainLeafSent.the_sync) depth 20

-- a block of terms with their postings
abbrev pub block : RattleType
block = PlainLeaf.the_row Term.the_row Postings.the_row term_shared.ghosts ordered.ghosts equal.ghosts compared.ghosts postings_shared.ghosts

pub block_send : IsSend block
block_send = PlainLeafSent.the_send Term.the_row Postings.the_row term_shared.ghosts ordered.ghosts equal.ghosts compared.ghosts postings_shared.ghosts term_send postings_send

pub block_sync : IsSync block
block_sync = PlainLeafSent.the_sync Term.the_row Postings.the_row term_shared.ghosts ordered.ghosts equal.ghosts compared.ghosts postings_shared.ghosts term_sync postings_sync

-- what a call of a map asks of its blocks, its last parameter, and of its values
pub block_sent : IsSend (param 5 block)
block_sent = param_send 5 block block_send

pub postings_sent : IsSend (param 2 Postings.the_row)
postings_sent = param_send 2 Postings.the_row postings_send

pub ruleset crosses = (block_send, block_sync, term_send, term_sync, postings_send, postings_sync, sendable, std_crosses, tree_send, tree_sync, Block.the_send, Block.the_sync, PlainLeafSent.the_send, PlainLeafSent.the_sync)
