-- The identifiers of clause 6.4: which numbers each kind has, and the two that an ONU-ID gives by itself.
-- Assumes nothing.
use Rattle.std.specs.Prelude.{ℕ, Bool, ◌&&◌, eqb, leb}
use Rattle.ids.specs.declared.OnuId.{OnuId}
use Rattle.ids.specs.declared.AllocId.{AllocId}
use Rattle.ids.specs.declared.PortId.{PortId}

abbrev pub within : ℕ → ℕ → ℕ → Bool
within first last id = leb first id && leb id last

-- Table 6-1: 0 to 1022 can be assigned, 1023 is the broadcast address and stands where there is none
abbrev pub assignable_onu : OnuId → Bool
assignable_onu onu = leb onu.0 1022

abbrev pub broadcast_onu : OnuId
broadcast_onu = record { 0 = 1023 }

-- Table 6-2: 1023 is that of serial number grants, 1024 to 16383 can be assigned
abbrev pub broadcast_alloc : AllocId
broadcast_alloc = record { 0 = 1023 }

abbrev pub assignable_alloc : AllocId → Bool
assignable_alloc alloc = within 1024 16383 alloc.0

-- Table 6-3: 1023 to 65534 can be assigned, 65535 is that of idle XGEM frames
abbrev pub assignable_port : PortId → Bool
assignable_port port = within 1023 65534 port.0

abbrev pub idle_port : PortId
idle_port = record { 0 = 65535 }

-- one identifier is another of its kind where their numbers are equal
abbrev pub same_onu : OnuId → OnuId → Bool
same_onu a b = eqb a.0 b.0

abbrev pub same_alloc : AllocId → AllocId → Bool
same_alloc a b = eqb a.0 b.0

abbrev pub same_port : PortId → PortId → Bool
same_port a b = eqb a.0 b.0

-- 6.4.3: the default Alloc-ID is numerically equal to the ONU-ID
abbrev pub default_alloc_lem : OnuId → AllocId
default_alloc_lem onu = record { 0 = onu.0 }

-- 6.4.4: the Port-ID of the management channel is numerically equal to the ONU-ID
abbrev pub management_port_lem : OnuId → PortId
management_port_lem onu = record { 0 = onu.0 }
