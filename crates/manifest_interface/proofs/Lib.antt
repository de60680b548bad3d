mod MemoryFaults
