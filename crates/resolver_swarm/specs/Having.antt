-- Which nodes have which keys, and which of them lie.
use Rattle.std.specs.Prelude.{ℕ, ◌≡◌, ◌+◌, ◌≤◌, ◌<◌, All, Any, true, List, Some, slice_get}
use Rattle.resolver_swarm.specs.declared.nodes.node.Node.{Node}
use Rattle.resolver_swarm.specs.declared.settings.Kind.TheVariants.{Fellow}
use Rattle.resolver_swarm.specs.declared.settings.Settings.{Settings}

-- that a node has the key of a number
abbrev pub Has : ℕ → Node → Type 0
Has number node = slice_get node.held.items number ≡ Some true

-- that a node has this key, if it is a fellow, which wants all
abbrev pub IsServed : ℕ → Node → Type 0
IsServed number node = node.kind ≡ Fellow → Has number node

-- that a node is a fellow, and lacks this key
abbrev pub Lacks : ℕ → Node → Type 0
Lacks number node = (node.kind ≡ Fellow) × ¬ Has number node

-- that each fellow has this key, if a node has it
abbrev pub IsShared : List Node → ℕ → Type 0
IsShared nodes number = Any (Has number) nodes → All (IsServed number) nodes

-- that of so many keys each fellow has those that a node has
abbrev pub AreShared : List Node → ℕ → Type 0
AreShared nodes keys = (number : ℕ) → number < keys → IsShared nodes number

-- that a fellow of this name lacks a key which a node has
abbrev pub IsLacking : List Node → ℕ → ℕ → Type 0
IsLacking nodes number name = Any (Has number) nodes × Any (λ node. Lacks number node × (node.name ≡ name)) nodes

-- that a fellow of this name lacks one of so many keys, which a node has
abbrev pub IsBehind : List Node → ℕ → ℕ → Type 0
IsBehind nodes keys name = (number : ℕ) × (number < keys) × IsLacking nodes number name

-- that a node of this name lies: those that lie come behind the sources and the slow nodes
abbrev pub Lies : Settings → ℕ → Type 0
Lies settings name = (settings.sources + settings.slow ≤ name) × (name < settings.sources + settings.slow + settings.liars)
