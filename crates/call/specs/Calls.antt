-- Who makes a call, its kind and its letter. Assumes nothing.
use Rattle.std.specs.Prelude.{ℕ}
use Rattle.call.specs.declared.call.Call.{Call}
use Rattle.call.specs.declared.call.Call.TheVariants as call
use Rattle.call.specs.declared.call.Kind.{Kind}
use Rattle.call.specs.declared.call.Kind.TheVariants as kind

-- the core that makes a call, or 8, the conductor
abbrev pub caller_of : Call → ℕ
caller_of (call.Load core word) = core
caller_of (call.Store core word value) = core
caller_of (call.Evict core word) = core
caller_of (call.Acquire core lock) = core
caller_of (call.Release core lock) = core
caller_of (call.Phase plan) = 8
caller_of call.Settle = 8

abbrev pub kind_of : Call → Kind
kind_of (call.Load core word) = kind.Load
kind_of (call.Store core word value) = kind.Store
kind_of (call.Evict core word) = kind.Evict
kind_of (call.Acquire core lock) = kind.Acquire
kind_of (call.Release core lock) = kind.Release
kind_of (call.Phase plan) = kind.Phase
kind_of call.Settle = kind.Settle

-- the letter of a kind: L, S, E, A, R, P and T
abbrev pub letter_of : Kind → ℕ
letter_of kind.Load = 76
letter_of kind.Store = 83
letter_of kind.Evict = 69
letter_of kind.Acquire = 65
letter_of kind.Release = 82
letter_of kind.Phase = 80
letter_of kind.Settle = 84
