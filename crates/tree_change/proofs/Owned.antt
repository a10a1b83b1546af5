-- A block or a node that has one owner, seen as the top of a map.
use Rattle.std.proofs.Common.{◌≡◌, ℕ, ◌+◌, ◌^◌, ◌<◌, ◌≤◌, List, ◌∷◌, ◌++◌, length, sym, ap, subst, ◌∙◌, arith, mul-le-mul_left}
use Rattle.std.specs.declared.alloc.Global.{Global}
use Rattle.std.specs.declared.cmp.Ordering.{Ordering}
use Rattle.std.specs.declared.sync.Arc.{Arc}
use Rattle.map_model.specs.Balance.{HeightLaw}
use Rattle.map_model.specs.Contents.{Contents}
use Rattle.map_model.proofs.Cuts.{length-around}
use Rattle.tree_shape.specs.Shape.{IsBlock, IsNode}
use Rattle.tree_shape.specs.Top.{contents, IsTop}
use Rattle.tree_shape.specs.declared.tree.Block.{Block}
use Rattle.tree_shape.specs.declared.tree.Node.{Node}
use Rattle.tree_shape.specs.declared.tree.Top.{Top}
use Rattle.tree_shape.specs.declared.tree.Top.TheVariants as top

module _ {M K V X A L : Type 0} (order : K → K → Ordering) (base : K → V → X) (unit : X) (combine : X → X → X) (block : ℕ) where
  -- the node is lawful, and the map's
  pub record IsTopNode (map : Contents K V) (node : Node M K V X A L) : Type 0 where
    pub shape : IsNode order base unit combine block node.left node.key node.val node.right node.fold node.size node.height
    pub entries_are : node.left.entries ++ (node.key, node.val) ∷ node.right.entries ≡ map.entries
    pub height_is : node.height ≡ map.height

module _ {K V X : Type 0} (order : K → K → Ordering) (base : K → V → X) (unit : X) (combine : X → X → X) (block : ℕ) where
  -- the block is lawful, and the map's
  pub record IsTopBlock (map : Contents K V) (entries : List (K × V)) (fold : X) : Type 0 where
    pub shape : IsBlock order base unit combine block entries fold
    pub entries_are : entries ≡ map.entries
    pub height_is : 0 ≡ map.height

module _ {M K V X A L : Type 0} (leaf_entries : L → List (K × V)) (order : K → K → Ordering) (base : K → V → X) (unit : X) (combine : X → X → X) (block : ℕ) where
  pub top_block : (map : Contents K V) (it : Block M K V X A L) (owner : Arc (Block M K V X A L) Global) (tree : Top M K V X A L)
      → it ≡ owner.value → tree ≡ top.Block owner → IsTop leaf_entries order base unit combine block tree → contents leaf_entries tree ≡ map
      → IsTopBlock order base unit combine block map (leaf_entries it.leaf) it.fold
  top_block map it owner tree it_is tree_is lawful view =
      let is = subst (λ x. IsTop leaf_entries order base unit combine block x) tree_is lawful in
      record {
        shape = subst (λ b. IsBlock order base unit combine block (leaf_entries b.leaf) b.fold) (sym it_is) is;
        entries_are = ap (λ b. leaf_entries b.leaf) it_is ∙ sym (ap (λ x. (contents leaf_entries x).entries) tree_is) ∙ ap (λ x. x.entries) view;
        height_is = sym (ap (λ x. (contents leaf_entries x).height) tree_is) ∙ ap (λ x. x.height) view;
      }

module _ {M K V X A L : Type 0} (leaf_entries : L → List (K × V)) (order : K → K → Ordering) (base : K → V → X) (unit : X) (combine : X → X → X) (block : ℕ) where
  pub top_node : (map : Contents K V) (node : Node M K V X A L) (owner : Arc (Node M K V X A L) Global) (tree : Top M K V X A L)
      → node ≡ owner.value → tree ≡ top.Node owner → IsTop leaf_entries order base unit combine block tree → contents leaf_entries tree ≡ map
      → IsTopNode order base unit combine block map node
  top_node map node owner tree node_is tree_is lawful view =
      let is = subst (λ x. IsTop leaf_entries order base unit combine block x) tree_is lawful in
      record {
        shape = subst (λ n. IsNode order base unit combine block n.left n.key n.val n.right n.fold n.size n.height) (sym node_is) is;
        entries_are = ap (λ n. n.left.entries ++ (n.key, n.val) ∷ n.right.entries) node_is ∙ sym (ap (λ x. (contents leaf_entries x).entries) tree_is) ∙ ap (λ x. x.entries) view;
        height_is = ap (λ n. n.height) node_is ∙ sym (ap (λ x. (contents leaf_entries x).height) tree_is) ∙ ap (λ x. x.height) view;
      }

module _ {M K V X A L : Type 0} {order : K → K → Ordering} {base : K → V → X} {unit : X} {combine : X → X → X} {block : ℕ} (map : Contents K V) (node : Node M K V X A L) (own : IsTopNode order base unit combine block map node) where
  pub left_is_shorter : length node.left.entries < length map.entries
  left_is_shorter = omega (arith, ap length own.entries_are, length-around node.left.entries (node.key, node.val) node.right.entries)

  pub right_is_shorter : length node.right.entries < length map.entries
  right_is_shorter = omega (arith, ap length own.entries_are, length-around node.left.entries (node.key, node.val) node.right.entries)

  pub left_is_lower : node.left.height + 1 ≤ map.height
  left_is_lower = omega (arith, own.shape.height_is, own.height_is)

  pub right_is_lower : node.right.height + 1 ≤ map.height
  right_is_lower = omega (arith, own.shape.height_is, own.height_is)

  pub sides_fit : length node.left.entries + length node.right.entries + 1 < 2 ^ 60
  sides_fit = omega (arith, own.shape.size_is, own.shape.size_fits, length-around node.left.entries (node.key, node.val) node.right.entries)

  -- a node of its height may have an entry more
  pub law_of_one_more : HeightLaw block node.height (node.size + 1)
  law_of_one_more =
      let law = own.shape.law in
      let long = own.shape.long in
      record {
        one_block = λ few. absurd (omega (arith, few, long));
        two_blocks = λ _ few. law.two_blocks long (omega (arith, few));
        bound = λ _. let bound = law.bound (omega (arith, long)) in let more : node.size + 1 ≤ node.size + 1 + 1 = omega arith in let up = mul-le-mul_left (3 ^ node.height) more in omega (arith, bound, up);
      }
