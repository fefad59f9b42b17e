-- What contracts see of an element that was read.
use Rattle.ldap_ber.specs.declared.reader.Tlv.{Tlv}
use Rattle.ldap_ber.specs.Reader.{Element}

abbrev pub element_of : Tlv → Element
element_of tlv = record { tag = tlv.tag; at = tlv.at; stop = tlv.stop; body = tlv.body.now }
