-- The numbers of the paper that bound a station's state, apart from those of its link and of its ports.
-- Assumes nothing.
use Rattle.std.specs.Prelude.{ℕ}

-- "An upstream frame is 9,720 words"
abbrev pub upstream_words : ℕ
upstream_words = 9720

-- "TO1 is 80,000 frame times (10 s), TO2 is 800 (100 ms)"
abbrev pub to1 : ℕ
to1 = 80000

abbrev pub to2 : ℕ
to2 = 800

-- 11.3.4.2 and 11.3.4.1: octets of a Registration ID and of a serial number
abbrev pub serial_octets_lem : ℕ
serial_octets_lem = 8

abbrev pub registration_octets_lem : ℕ
registration_octets_lem = 36
