-- The whole state: power-on, what entering a state forgets, and a state that differs in one thing.
-- Assumes nothing.
use Rattle.std.specs.Prelude.{ℕ, List}
use Rattle.station.specs.declared.Activation.{Activation}
use Rattle.station.specs.declared.Activation.TheVariants.{Initial}
use Rattle.link.specs.declared.Link.{Link}
use Rattle.ports.specs.declared.Ports.{Ports}
use Rattle.station.specs.declared.Station.{Station}
use Rattle.link.specs.Link.{nothing}
use Rattle.ports.specs.Ports.{no_ports, drop_all_lem}

-- "Power-on takes a serial number and a Registration ID and gives O1 with nothing held or carried"
abbrev pub power_on_lem : List ℕ → List ℕ → Station
power_on_lem serial registration =
    record { activation = Initial; serial = serial; registration = registration; link = nothing; ports = no_ports; carried = 0 }

-- "Entering O1, O2-3 or O7 forgets ONU-ID, Alloc-IDs, delay, key, owed answers and partials; added ports stay; every
-- port then waits, the management port too". What is carried is no part of it.
abbrev pub enter : Station → Activation → Station
enter s activation =
    record {
      activation = activation;
      serial = s.serial;
      registration = s.registration;
      link = nothing;
      ports = drop_all_lem s.ports;
      carried = s.carried;
    }

abbrev pub with_activation_lem : Station → Activation → Station
with_activation_lem s activation =
    record {
      activation = activation;
      serial = s.serial;
      registration = s.registration;
      link = s.link;
      ports = s.ports;
      carried = s.carried;
    }

abbrev pub with_link_lem : Station → Link → Station
with_link_lem s link =
    record {
      activation = s.activation;
      serial = s.serial;
      registration = s.registration;
      link = link;
      ports = s.ports;
      carried = s.carried;
    }

abbrev pub with_ports_lem : Station → Ports → Station
with_ports_lem s ports =
    record {
      activation = s.activation;
      serial = s.serial;
      registration = s.registration;
      link = s.link;
      ports = ports;
      carried = s.carried;
    }

abbrev pub with_carried_lem : Station → ℕ → Station
with_carried_lem s words =
    record {
      activation = s.activation;
      serial = s.serial;
      registration = s.registration;
      link = s.link;
      ports = s.ports;
      carried = words;
    }
