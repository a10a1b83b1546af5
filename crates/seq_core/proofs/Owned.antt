-- A block or a node that has one owner, seen as the top of a sequence.
use Rattle.std.proofs.Common.{◌≡◌, ℕ, ◌+◌, ◌^◌, ◌<◌, List, ◌∷◌, ◌++◌, length, sym, ap, subst, ◌∙◌, arith}
use Rattle.std.specs.declared.alloc.Global.{Global}
use Rattle.std.specs.declared.sync.Arc.{Arc}
use Rattle.map_model.proofs.Cuts.{length-around}
use Rattle.seq_core.specs.Contents.{Contents}
use Rattle.seq_core.specs.Shape.{IsBlock, IsNode}
use Rattle.seq_core.specs.Top.{contents, IsTop}
use Rattle.seq_core.specs.declared.tree.Block.{Block}
use Rattle.seq_core.specs.declared.tree.Node.{Node}
use Rattle.seq_core.specs.declared.tree.Top.{Top}
use Rattle.seq_core.specs.declared.tree.Top.TheVariants as top

module _ {F E X : Type 0} (image : E → X) (unit : X) (combine : X → X → X) (block : ℕ) where
  -- a lawful block of these items
  pub record IsBlockOf (items : List E) (it : Block F E X) : Type 0 where
    pub shape : IsBlock image unit combine block it.items.items it.sum
    pub items_are : it.items.items ≡ items

module _ {F S E X : Type 0} (image : E → X) (unit : X) (combine : X → X → X) (block : ℕ) where
  -- a lawful node of these items
  pub record IsNodeOf (items : List E) (node : Node F S E X) : Type 0 where
    pub shape : IsNode image unit combine block node.before node.left node.item node.right node.sum node.size node.height
    pub items_are : node.left.items ++ node.item ∷ node.right.items ≡ items

  pub top_block : (seq : Contents E) (it : Block F E X) (owner : Arc (Block F E X) Global) (tree : Top F S E X)
      → it ≡ owner.value → tree ≡ top.Block owner → IsTop image unit combine block tree → contents tree ≡ seq → IsBlockOf image unit combine block seq.items it
  top_block seq it owner tree it_is tree_is lawful view =
      let is = subst (λ x. IsTop image unit combine block x) tree_is lawful in
      record {
        shape = subst (λ b. IsBlock image unit combine block b.items.items b.sum) (sym it_is) is;
        items_are = ap (λ b. b.items.items) it_is ∙ sym (ap (λ x. (contents x).items) tree_is) ∙ ap (λ x. x.items) view;
      }

  pub top_node : (seq : Contents E) (node : Node F S E X) (owner : Arc (Node F S E X) Global) (tree : Top F S E X)
      → node ≡ owner.value → tree ≡ top.Node owner → IsTop image unit combine block tree → contents tree ≡ seq → IsNodeOf seq.items node
  top_node seq node owner tree node_is tree_is lawful view =
      let is = subst (λ x. IsTop image unit combine block x) tree_is lawful in
      record {
        shape = subst (λ n. IsNode image unit combine block n.before n.left n.item n.right n.sum n.size n.height) (sym node_is) is;
        items_are = ap (λ n. n.left.items ++ n.item ∷ n.right.items) node_is ∙ sym (ap (λ x. (contents x).items) tree_is) ∙ ap (λ x. x.items) view;
      }

module _ {F S E X : Type 0} {image : E → X} {unit : X} {combine : X → X → X} {block : ℕ} (items : List E) (node : Node F S E X) (own : IsNodeOf image unit combine block items node) where
  pub sizes : length items ≡ length node.left.items + length node.right.items + 1
  sizes = sym (ap length own.items_are) ∙ length-around node.left.items node.item node.right.items

  pub node_size : node.size ≡ length node.left.items + length node.right.items + 1
  node_size = own.shape.size_is ∙ length-around node.left.items node.item node.right.items

  pub sides_fit : length node.left.items + length node.right.items + 1 < 2 ^ 60
  sides_fit = omega (arith, node_size, own.shape.size_fits)
