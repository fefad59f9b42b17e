pub mod FreshPorts
