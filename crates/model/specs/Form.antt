-- The form of a request: a known kind, unused numbers 0, each used number in its range.
use Rattle.std.specs.Prelude.{ℕ, ◌-◌, Bool, true, cond, ◌&&◌, ◌||◌, List, [], ◌∷◌, Some, None, Option, ◌==◌, nat_le, slice_index_or, slice_index}
use Rattle.policy.specs.Order.{Order}
use Rattle.model.specs.declared.fact.Mode.{Mode}
use Rattle.model.specs.declared.fact.Mode.TheVariants.{Read, Write, Execute, Own}
use Rattle.model.specs.declared.request.Request.{Request}
use Rattle.model.specs.declared.request.Kind.{Kind}
use Rattle.model.specs.declared.request.Kind.TheVariants.{Take, Drop, Grant, Revoke, Object, Container, Link, Unlink, Delete, Open, Close, Gain, GiveUp}
use Rattle.model.specs.declared.request.Span.{Span}
use Rattle.model.specs.declared.request.Span.TheVariants.{Unused, Within, Right, Access}
use Rattle.model.specs.declared.request.Sort.{Sort}
use Rattle.model.specs.declared.request.Sort.TheVariants as sort
use Rattle.model.specs.declared.request.Row.{Row}

-- the request of eight numbers, in their order
abbrev pub request_of : List ℕ → Request
request_of ns =
    record { k = slice_index ns 0; x = slice_index ns 1; v = slice_index ns 2; r = slice_index ns 3; y = slice_index ns 4; z = slice_index ns 5; l = slice_index ns 6; m = slice_index ns 7 }

-- the thirteen kinds, from 1 on
abbrev pub kinds : List Kind
kinds = Take ∷ Drop ∷ Grant ∷ Revoke ∷ Object ∷ Container ∷ Link ∷ Unlink ∷ Delete ∷ Open ∷ Close ∷ Gain ∷ GiveUp ∷ []

unfoldable pub kind_of : ℕ → Option Kind
kind_of k = cond (nat_le 1 k && nat_le k 13) (Some (slice_index_or kinds (k - 1) Take)) None

-- a right or an access is 1 to read, 2 to write, 4 to execute, 8 to own
abbrev pub mode_of : ℕ → Mode
mode_of m = cond (m == 1) Read (cond (m == 2) Write (cond (m == 4) Execute Own))

-- ## The rows of the table

abbrev pub role : Span
role = Within 0 31

abbrev pub item : Span
item = Within 1 255

abbrev entity : Span
entity = Within 64 255

abbrev pub session : Span
session = Within 1 63

abbrev level : Span
level = Within 0 65535

abbrev cells : Span → Span → Span → Span → Span → Sort → Sort → Row
cells r y z l m y-is z-is = record { r = r; y = y; z = z; l = l; m = m; y_is = y-is; z_is = z-is }

-- the numbers r, y, z, l and m, and the sorts of the items y and z
abbrev pub row : Kind → Row
row Take = cells role Unused Unused Unused Unused sort.Any sort.Any
row Drop = cells role Unused Unused Unused Unused sort.Any sort.Any
row Grant = cells role item Unused Unused Right sort.Live sort.Any
row Revoke = cells role item Unused Unused Right sort.Live sort.Any
row Object = cells role entity entity level Unused sort.New sort.Container
row Container = cells role entity entity level (Within 0 3) sort.New sort.Container
row Link = cells Unused entity entity Unused Unused sort.Object sort.Container
row Unlink = cells Unused entity entity Unused Unused sort.Object sort.Container
row Delete = cells Unused entity entity Unused Unused sort.Live sort.Container
row Open = cells role entity session level Unused sort.Object sort.New
row Close = cells Unused session Unused Unused Unused sort.Live sort.Any
row Gain = cells Unused item Unused Unused Access sort.Live sort.Any
row GiveUp = cells Unused item Unused Unused Access sort.Live sort.Any

-- ## What a row admits

abbrev pub between : ℕ → ℕ → ℕ → Bool
between a b n = nat_le a n && nat_le n b

-- an unused number is 0
abbrev pub idle : Span → ℕ → Bool
idle Unused n = n == 0
idle (Within a b) n = true
idle Right n = true
idle Access n = true

-- a used number is in its range
abbrev pub admits : Span → ℕ → Bool
admits Unused n = true
admits (Within a b) n = between a b n
admits Right n = n == 1 || (n == 2 || (n == 4 || n == 8))
admits Access n = n == 1 || (n == 2 || n == 8)

-- on a session only right and access 8 exist
abbrev pub suits : Span → ℕ → ℕ → Bool
suits Unused y m = true
suits (Within a b) y m = true
suits Right y m = nat_le 64 y || m == 8
suits Access y m = nat_le 64 y || m == 8

-- a used level is known
abbrev pub knows : Order → Span → ℕ → Bool
knows o Unused l = true
knows o (Within a b) l = o.known l
knows o Right l = true
knows o Access l = true

abbrev pub shaped : Row → Request → Bool
shaped w q = idle w.r q.r && (idle w.y q.y && (idle w.z q.z && (idle w.l q.l && idle w.m q.m)))

abbrev pub ranged : Row → Request → Bool
ranged w q =
    between 1 63 q.x && (between 1 63 q.v && (admits w.r q.r && (admits w.y q.y && (admits w.z q.z
    && (admits w.l q.l && (admits w.m q.m && suits w.m q.y q.m))))))
